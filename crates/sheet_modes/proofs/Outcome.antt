-- What is got in a mode, from how the sheet behind its header ends; and that two outcomes that the contract of `read` allows are one. Assumes nothing.
use mathlib.Core.Path.{◌≡◌, refl, sym, ◌∙◌, ap}
use mathlib.Core.Bool.{false, cond}
use mathlib.Core.Logic.{inl, inr}
use mathlib.Core.List.{List, map}
use mathlib.Core.Option.{Option, none, some}
use Prim.Native.Nat.{ℕ, ◌+◌, ◌≤◌}
use native.Mathlib.Omega.{arith}
use lib.ListN.{length, take, length-map, length-drop}
use lib.Seq.{length-take-le}
use Rattle.plane.specs.Corners.{millimetres}
use lib.Dec.{eqb}
use Rattle.std.specs.Prelude.{Option as Maybe, None, Some, Result, Ok, Err}
use Rattle.lent.specs.declared.Fault.{Fault}
use Rattle.lent.specs.Refusals.{code_of}
use Rattle.lent.proofs.Refusals.{equal_refusals}
use Rattle.lent.specs.Stages.{value, refused}
use Rattle.lent.proofs.Stages.{value_refused, same_refusal}
use Rattle.sheet_form.specs.Numbers.{Sheet, members, numbers_of}
use Rattle.sheet.specs.Held.{SheetHeld}
use Rattle.sheet.specs.Reading.{reading_of}
use Rattle.sheet_blob.specs.declared.Opened.{Opened}
use Rattle.sheet_blob.specs.Opening.{opening_of}
use Rattle.sheet_blob.proofs.Refusals.{refused_as_fault}
use Rattle.sheet_older.proofs.Sheets.{same_held}
use Rattle.sheet_modes.specs.Modes.{edited, blob, Mode, mode_of, around, behind, begins, headed, header_position, header_fault, placed, position_in}
use Rattle.sheet_modes.specs.Held.{around_of, EndsAs, GotAs}
use Rattle.sheet_modes.proofs.Modes.{by_value, by_refused, header_is}

-- ---- the position
module _ (mode : ℕ) (s : List ℕ) (m : Mode) (known : mode_of mode ≡ value m) where
  -- Of a field behind what stands around the sheet, counted from the first byte.
  pub position_behind : (o : Option Opened) → around m.form s ≡ value o → eqb (reading_of members (behind o s)).code 0 ≡ false → position_in (mode_of mode) s ≡ begins o + (reading_of members (behind o s)).position
  position_behind o is e = ap (λ a. position_in a s) known ∙ ap (placed m.form s) is ∙ ap (λ b. cond b 0 (begins o + (reading_of members (behind o s)).position)) e

  -- Of a field of a blob's header.
  pub position_of_header : m.form ≡ blob → (f : Fault) → opening_of s ≡ Err f → (around m.form s ≡ refused (code_of f.refusal.reason) 0) × (position_in (mode_of mode) s ≡ f.position)
  position_of_header q f e = (refusal, ap (λ a. position_in a s) known ∙ ap (placed m.form s) refusal ∙ ap (λ i. header_fault i s) q ∙ ap header_position e)
    where
      refusal : around m.form s ≡ refused (code_of f.refusal.reason) 0
      refusal = ap (λ i. around i s) q ∙ ap headed e

-- What stands behind a header is no longer than the whole.
behind_shorter : (o : Option Opened) (s : List ℕ) → length (behind o s) ≤ length s
behind_shorter none s = omega arith
behind_shorter (some h) s = omega (arith, length-drop h.at s)

-- ---- what is got
module _ (mode : ℕ) (s numbers : List ℕ) (m : Mode) (known : mode_of mode ≡ value m) where
  module _ (o : Option Opened) (is : around m.form s ≡ value o) where
    -- A sheet.
    pub got_sheet : (k : ℕ) (a : Maybe Opened) → around_of a ≡ o → EndsAs m.edition (behind o s) (Ok k) numbers → GotAs mode s (Ok (k, a)) numbers
    got_sheet k a e (n, r, h, l, w, p) = (
      edited m.edition n,
      (by_value members s mode (edited m.edition n)).1 (record { known = m; is_mode = known; header = o; is_around = is; sheet = n; read = r; is = refl }),
      header_is members s mode m o known is ∙ sym e,
      h,
      l,
      w,
      omega (arith, p, behind_shorter o s),
    )

    -- A refusal of reading, its position counted from the first byte.
    pub got_refused : (f : Fault) (at : ℕ) → at ≡ begins o + f.position → EndsAs m.edition (behind o s) (Err f) numbers → GotAs mode s (Err (record { refusal = f.refusal; position = at })) numbers
    got_refused f at q w = ((by_refused members s mode (code_of f.refusal.reason) f.refusal.item).1 (inr (m, known, inr (o, is, w.0))), q ∙ sym told)
      where
        told : position_in (mode_of mode) s ≡ begins o + f.position
        told = position_behind mode s m known o is w.2 ∙ ap (λ i. begins o + i) (sym w.1)

  -- A refusal of a blob's header, whose item is 0.
  pub got_header : m.form ≡ blob → (f : Fault) → opening_of s ≡ Err f → (f.refusal.item ≡ 0) × GotAs mode s (Err f) numbers
  got_header q f e =
      let (refusal, told) = position_of_header mode s m known q f e in
      let z : f.refusal.item ≡ 0 = ap (λ (f : Fault). f.refusal.item) (refused_as_fault s f e) in
      (z, ((by_refused members s mode (code_of f.refusal.reason) 0).1 (inr (m, known, inl refusal)) ∙ ap (λ i. refused (code_of f.refusal.reason) i) (sym z), sym told))

-- ---- two outcomes that the contract of `read` allows
-- What stands around a sheet is told by the header that it is.
around_told : (a b : Maybe Opened) → around_of a ≡ around_of b → a ≡ b
around_told None None e = refl
around_told None (Some h) e = absurd (cc e)
around_told (Some h) None e = absurd (cc e)
around_told (Some h) (Some k) e = ap Some (cc e)

count_told : {k i : ℕ} {a b : Maybe Opened} → ◌≡◌ {A = Result (ℕ × Maybe Opened) Fault} (Ok (k, a)) (Ok (i, b)) → k ≡ i
count_told {k} {i} {a} {b} e = let t : (k, a) ≡ (i, b) = cc e in ap (λ (t : ℕ × Maybe Opened). t.0) t

-- The answers are the same, and where a sheet is read so are its numbers.
module _ (mode : ℕ) (s l l' : List ℕ) where
  as_many : {n : Sheet} (k : ℕ) (l : List ℕ) → SheetHeld members n (take k l) → k ≤ length l → length (numbers_of n) ≡ k
  as_many k l h m = ap length (sym h.is) ∙ length-map (take k l) millimetres ∙ length-take-le k l m

  pub one_outcome : (r r' : Result (ℕ × Maybe Opened) Fault) → GotAs mode s r l → GotAs mode s r' l' → (r ≡ r') × ((k : ℕ) (a : Maybe Opened) → r ≡ Ok (k, a) → take k l ≡ take k l')
  one_outcome (Ok (k, a)) (Ok (k', a')) (n, p, o, h, m, w₁, q₁) (n', p', o', h', m', w₂, q₂) =
      let same : n ≡ n' = cc (sym p ∙ p') in
      let e : k ≡ k' = sym (as_many k l h m) ∙ ap (λ n. length (numbers_of n)) same ∙ as_many k' l' h' m' in
      let w = around_told a a' (sym o ∙ o') in (
        λ j. Ok (e j, w j),
        λ i b q. let z : k ≡ i = count_told q in
            rw (← z) (same_held (take k l) (take k l') (h.is ∙ ap numbers_of same ∙ sym h'.is ∙ ap (λ j. map millimetres (take j l')) (sym e))),
      )
  one_outcome (Ok (k, a)) (Err f) (n, p, o, h, m, w, q) (p', u) = absurd (value_refused n (code_of f.refusal.reason) f.refusal.item (sym p ∙ p'))
  one_outcome (Err f) (Ok (k, a)) (p', u) (n, p, o, h, m, w, q) = absurd (value_refused n (code_of f.refusal.reason) f.refusal.item (sym p ∙ p'))
  one_outcome (Err f) (Err f') (p, u) (p', u') =
      let (c, i) = (same_refusal {A = Sheet} (code_of f.refusal.reason) f.refusal.item (code_of f'.refusal.reason) f'.refusal.item).0 (sym p ∙ p') in
      let q = equal_refusals (sym c) (sym i) in
      (λ j. Err (record { refusal = q j; position = (u ∙ sym u') j }), λ k a q. absurd (cc q))
