-- What reading in a mode tells: its refusals have document 01's codes for reading, those of a blob's header, or 57, and a sheet that is read is within the limits.
-- The idea: a sheet within the limits is read from its own normal bytes, as it is held. Assumes nothing.
use mathlib.Core.Path.{◌≡◌, refl, sym, ◌∙◌, ap, subst}
use mathlib.Core.Logic.{◌⊎◌, inl, inr}
use mathlib.Core.Bool.{Bool, true, false, cond}
use mathlib.Core.List.{List, map}
use mathlib.Core.Option.{Option, none, some}
use Prim.Native.Nat.{ℕ, ◌≤◌, ◌<◌}
use native.Mathlib.Decide.{dec_le}
use native.Mathlib.Omega.{arith}
use borrow.Author.Tests.{eqb-false, ne_eqb, lt-leb}
use lib.Dec.{eqb}
use Rattle.whole.specs.Sums.{All}
use Rattle.plane.specs.Corners.{millimetres}
use Rattle.lent.specs.declared.Fault.{Fault}
use Rattle.lent.specs.Refusals.{code_of}
use Rattle.lent.specs.Stages.{value, refused}
use Rattle.lent.proofs.Stages.{value_refused, same_refusal}
use Rattle.sheet_form.specs.Numbers.{Sheet, members}
use Rattle.sheet_form.specs.Form.{sheet_in}
use Rattle.sheet.specs.Reading.{reading_of}
use Rattle.sheet.specs.Held.{SheetHeld}
use Rattle.sheet.specs.Read.{made, read_sheet}
use Rattle.sheet.proofs.Refusals.{Lawful, reading_lawful}
use Rattle.sheet_written.specs.Normal.{written}
use Rattle.sheet_written.proofs.Held.{reads_held}
use Rattle.sheet_written.proofs.Trip.{written_bytes, round_trip}
use Rattle.sheet_blob.specs.declared.Opened.{Opened}
use Rattle.std.specs.Prelude.{Ok, Err}
use Rattle.sheet_blob.specs.Opening.{Opening, opening_of}
use Rattle.sheet_blob.proofs.Refusals.{RefusedAs, refused_known, refused_as_fault}
use Rattle.sheet_modes.specs.Modes.{Form, plain, blob, headed, around, behind, read_by}
use Rattle.sheet_modes.proofs.Modes.{by_refused, by_fits, mode_refused}
use Rattle.demands.specs.Positions.{OfReading, low, of_header, of_mode}

-- A refusal of reading has a code that document 01 gives for reading, with its item.
lawful : (s : List ℕ) (code item : ℕ) → read_sheet members s ≡ refused code item → (code ≡ 0 → ⊥) × Lawful members code item
unfolding read_sheet
lawful s code item e = go (eqb (reading_of members s).code 0) refl (sheet_in (map millimetres (reading_of members s).numbers)) e
  where
    go : (b : Bool) → eqb (reading_of members s).code 0 ≡ b → (o : Option Sheet) → cond b (made o) (refused (reading_of members s).code (reading_of members s).item) ≡ refused code item
        → (code ≡ 0 → ⊥) × Lawful members code item
    go true q none e =
        let (c, i) = (same_refusal {A = Sheet} 1 0 code item).0 e in
        (λ z. omega arith, subst (Lawful members code) (sym i) (subst (λ c. Lawful members c 0) (sym c) tt))
    go true q (some n) e = absurd (value_refused n code item e)
    go false q o e =
        let (c, i) = (same_refusal {A = Sheet} (reading_of members s).code (reading_of members s).item code item).0 e in
        (λ z. eqb-false (reading_of members s).code 0 q (sym c ∙ z), subst (Lawful members code) (sym i) (subst (λ c. Lawful members c (reading_of members s).item) (sym c) (reading_lawful members s)))

-- No code of reading is above 8.
pub no_higher : (code item : ℕ) → 9 ≤ code → Lawful members code item → ⊥
no_higher code item h = rw (ne_eqb code 0 (λ e. omega arith), ne_eqb code 7 (λ e. omega arith), lt-leb code 8 h) (λ t. t)

-- What stands around a sheet is refused where a header is, with item 0: 1, 50 or 51.
pub around_refused : (form : Form) (s : List ℕ) (code item : ℕ) → around form s ≡ refused code item → (position : ℕ) × (form ≡ blob) × RefusedAs s code position × (item ≡ 0)
around_refused plain s code item e = absurd (value_refused _ code item e)
around_refused blob s code item e = go (opening_of s) refl e
  where
    go : (o : Opening) → opening_of s ≡ o → headed o ≡ refused code item → (position : ℕ) × (◌≡◌ {A = Form} blob blob) × RefusedAs s code position × (item ≡ 0)
    go (Ok r) q e = absurd (value_refused _ code item e)
    go (Err f) q e =
        let (a, b) = (same_refusal (code_of f.refusal.reason) 0 code item).0 e in
        let w = refused_as_fault s f q in
        (f.position, refl, (f.refusal.reason, sym a, q ∙ ap Err w), b)

-- A header stands around a sheet exactly if it is read.
pub read_opened : (s : List ℕ) (r : Opened) → around blob s ≡ value (some r) → opening_of s ≡ Ok r
read_opened s r e = go (opening_of s) e
  where
    go : (o : Opening) → headed o ≡ value (some r) → o ≡ Ok r
    go (Ok t) e = let q : t ≡ r = cc e in ap Ok q
    go (Err f) e = absurd (value_refused _ (code_of f.refusal.reason) 0 (sym e))

-- In a mode: 57 with item 0 where the mode is unknown; of a header 50 or 51 with item 0; else a code for reading.
pub read_lawful : (mode : ℕ) (s : List ℕ) (code item : ℕ) → read_by members mode s ≡ refused code item
    → ((code ≡ 57) × (item ≡ 0)) ⊎ ((((code ≡ 50) ⊎ (code ≡ 51)) × (item ≡ 0)) ⊎ ((code ≡ 0 → ⊥) × Lawful members code item))
read_lawful mode s code item e = elim ((by_refused members s mode code item).0 e) [
  | inl p ↦ inl (mode_refused mode code item p)
  | inr (m, p, inl r) ↦ let (position, f, o, i) = around_refused m.form s code item r in header position o i
  | inr (m, p, inr (o, q, r)) ↦ inr (inr (lawful (behind o s) code item r))
]
  where
    header : (position : ℕ) → RefusedAs s code position → item ≡ 0
        → ((code ≡ 57) × (item ≡ 0)) ⊎ ((((code ≡ 50) ⊎ (code ≡ 51)) × (item ≡ 0)) ⊎ ((code ≡ 0 → ⊥) × Lawful members code item))
    header position o i = elim (refused_known s code position o) [
      | inl (c, l) ↦ inr (inr ((λ z. omega arith), subst (Lawful members code) (sym i) (subst (λ c. Lawful members c 0) (sym c) tt)))
      | inr (c, p) ↦ inr (inl (c, i))
    ]

-- So its code is one of those, which no other stage gives.
pub of_reading : (mode : ℕ) (s : List ℕ) (code item : ℕ) → read_by members mode s ≡ refused code item → OfReading code
of_reading mode s code item e = elim (read_lawful mode s code item e) [
  | inl p ↦ of_mode p.0
  | inr (inl (c, i)) ↦ of_header c
  | inr (inr p) ↦ low (go (dec_le 9 code) p.1)
]
  where
    go : Dec (9 ≤ code) → Lawful members code item → code ≤ 8
    go (yes h) l = absurd (no_higher code item h l)
    go (no h) l = omega arith

pub not_between : {code : ℕ} → OfReading code → 9 ≤ code → code ≤ 49 → ⊥
not_between (low h) a b = omega arith
not_between (of_header (inl e)) a b = omega arith
not_between (of_header (inr e)) a b = omega arith
not_between (of_mode e) a b = omega arith

pub not_above : {code : ℕ} → OfReading code → 52 ≤ code → code ≤ 56 → ⊥
not_above (low h) a b = omega arith
not_above (of_header (inl e)) a b = omega arith
not_above (of_header (inr e)) a b = omega arith
not_above (of_mode e) a b = omega arith

-- A sheet that is read in a mode is within the limits.
pub read_limits : (mode : ℕ) (s : List ℕ) → All (λ b. b < 256) s → (n : Sheet) → read_by members mode s ≡ value n → SheetHeld members n (reading_of members (written n)).numbers
read_limits mode s bytes n e =
    let fits = by_fits members s (omega arith) bytes mode n e in
    (reads_held members (omega arith) (written n) (written_bytes n) n (round_trip members (omega arith) n fits)).0
