-- What reading in a mode answers, by what stands around the sheet and what reading answers behind it. The idea: a mode that is known adds no refusal but that of
-- a blob's header, and loses none. Assumes nothing.
use mathlib.Core.Path.{◌≡◌, refl, sym, ◌∙◌, ap}
use mathlib.Core.Bool.{cond}
use mathlib.Core.Logic.{◌↔◌, ◌⊎◌, inl, inr}
use mathlib.Core.List.{List}
use mathlib.Core.Option.{Option, none, some}
use Prim.Native.Nat.{ℕ, zero, suc, ◌≤◌, ◌<◌, ◌^◌}
use native.Mathlib.Omega.{arith}
use borrow.Author.Tests.{ne_eqb}
use lib.Dec.{T, eqb}
use Rattle.whole.specs.Sums.{All}
use Rattle.whole.proofs.Sums.{all_drop}
use Rattle.lent.specs.Stages.{Answer, value, refused, and_then}
use Rattle.lent.proofs.Stages.{value_refused, same_refusal, chain_value, chain_refused}
use Rattle.sheet_form.specs.Numbers.{Sheet}
use Rattle.sheet.specs.Read.{read_sheet}
use Rattle.sheet_blob.specs.declared.Opened.{Opened}
use Rattle.sheet_written.specs.Fits.{sheet_fits}
use Rattle.sheet_written.proofs.Held.{read_sheet_is}
use Rattle.sheet_written.proofs.Trip.{read_written}
use Rattle.sheet_turned.proofs.Trip.{turned_fits}
use Rattle.sheet_modes.specs.Modes.{Edition, present, older, edited, plain, blob, Mode, mode_of, around, behind, found, header_by, read_by}

-- What holds of all bytes holds of those behind.
pub all_behind : (P : ℕ → Type 0) (o : Option Opened) (s : List ℕ) → All P s → All P (behind o s)
all_behind P none s h = h
all_behind P (some r) s h = all_drop P r.at s h

-- The sheet that is read behind what stands around it.
pub record ReadIn (limit mode : ℕ) (s : List ℕ) (n : Sheet) : Type 0 where
  pub known : Mode
  pub is_mode : mode_of mode ≡ value known
  pub header : Option Opened
  pub is_around : around known.form s ≡ value header
  pub sheet : Sheet
  pub read : read_sheet limit (behind header s) ≡ value sheet
  pub is : edited known.edition sheet ≡ n

module _ (limit : ℕ) (s : List ℕ) where
  abbrev last : Edition → Sheet → Answer Sheet
  last edition n = value (edited edition n)

  abbrev inner : Mode → Option Opened → Answer Sheet
  inner m o = and_then (read_sheet limit (behind o s)) (last m.edition)

  abbrev outer : Mode → Answer Sheet
  outer m = and_then (around m.form s) (inner m)

  -- Reading in a mode has a sheet exactly if the mode is known, what stands around it is read, and behind that a sheet, which it is in its edition.
  pub by_value : (mode : ℕ) (n : Sheet) → (read_by limit mode s ≡ value n) ↔ ReadIn limit mode s n
  unfolding read_by
  by_value mode n = (
    λ e.
        let (m, p, q) = (chain_value (mode_of mode) outer n).0 e in
        let (o, r, t) = (chain_value (around m.form s) (inner m) n).0 q in
        let (k, u, v) = (chain_value (read_sheet limit (behind o s)) (last m.edition) n).0 t in
        record { known = m; is_mode = p; header = o; is_around = r; sheet = k; read = u; is = cc v },
    λ w.
        (chain_value (mode_of mode) outer n).1 (
          w.known,
          w.is_mode,
          (chain_value (around w.known.form s) (inner w.known) n).1 (
            w.header,
            w.is_around,
            (chain_value (read_sheet limit (behind w.header s)) (last w.known.edition) n).1 (w.sheet, w.read, ap value w.is),
          ),
        ),
  )

  -- It is refused exactly if the mode is unknown, or else the header is refused, or else reading is, behind it.
  pub by_refused : (mode code item : ℕ)
      → (read_by limit mode s ≡ refused code item) ↔ ((mode_of mode ≡ refused code item) ⊎ ((m : Mode) × (mode_of mode ≡ value m)
      × ((around m.form s ≡ refused code item) ⊎ ((o : Option Opened) × (around m.form s ≡ value o) × (read_sheet limit (behind o s) ≡ refused code item)))))
  unfolding read_by
  by_refused mode code item = (to, from)
    where
      Said : Type 0
      Said = (mode_of mode ≡ refused code item) ⊎ ((m : Mode) × (mode_of mode ≡ value m)
          × ((around m.form s ≡ refused code item) ⊎ ((o : Option Opened) × (around m.form s ≡ value o) × (read_sheet limit (behind o s) ≡ refused code item))))

      to : and_then (mode_of mode) outer ≡ refused code item → Said
      to e = elim ((chain_refused (mode_of mode) outer code item).0 e) [
        | inl p ↦ inl p
        | inr (m, p, q) ↦ elim ((chain_refused (around m.form s) (inner m) code item).0 q) [
          | inl r ↦ inr (m, p, inl r)
          | inr (o, r, t) ↦ elim ((chain_refused (read_sheet limit (behind o s)) (last m.edition) code item).0 t) [
            | inl u ↦ inr (m, p, inr (o, r, u))
            | inr (k, u, v) ↦ absurd (value_refused _ code item v)
          ]
        ]
      ]

      from : Said → and_then (mode_of mode) outer ≡ refused code item
      from (inl p) = (chain_refused (mode_of mode) outer code item).1 (inl p)
      from (inr (m, p, inl r)) = (chain_refused (mode_of mode) outer code item).1 (inr (m, p, (chain_refused (around m.form s) (inner m) code item).1 (inl r)))
      from (inr (m, p, inr (o, r, u))) =
          (chain_refused (mode_of mode) outer code item).1 (inr (m, p, (chain_refused (around m.form s) (inner m) code item).1 (inr (o, r, (chain_refused (read_sheet limit (behind o s)) (last m.edition) code item).1 (inl u)))))

  -- In a known mode, behind what stands around the sheet: reading, and then the edition.
  module _ (mode : ℕ) (m : Mode) (o : Option Opened) (known : mode_of mode ≡ value m) (is : around m.form s ≡ value o) where
    in-mode : read_by limit mode s ≡ inner m o
    unfolding read_by
    in-mode = ap (λ a. and_then a outer) known ∙ ap (λ a. and_then a (inner m)) is

    pub in_mode_value : (n : Sheet) → (read_by limit mode s ≡ value n) ↔ ((k : Sheet) × (read_sheet limit (behind o s) ≡ value k) × (edited m.edition k ≡ n))
    in_mode_value n = (
      λ e. let (k, u, v) = (chain_value (read_sheet limit (behind o s)) (last m.edition) n).0 (sym in-mode ∙ e) in (k, u, cc v),
      λ (k, u, v). in-mode ∙ (chain_value (read_sheet limit (behind o s)) (last m.edition) n).1 (k, u, ap value v),
    )

    pub in_mode_refused : (code item : ℕ) → (read_by limit mode s ≡ refused code item) ↔ (read_sheet limit (behind o s) ≡ refused code item)
    in_mode_refused code item = (
      λ e. elim ((chain_refused (read_sheet limit (behind o s)) (last m.edition) code item).0 (sym in-mode ∙ e)) [ inl u ↦ u | inr (k, u, v) ↦ absurd (value_refused _ code item v) ],
      λ u. in-mode ∙ (chain_refused (read_sheet limit (behind o s)) (last m.edition) code item).1 (inl u),
    )

  -- What stands around the sheet is the header that was read.
  pub header_is : (mode : ℕ) (m : Mode) (o : Option Opened) → mode_of mode ≡ value m → around m.form s ≡ value o → header_by mode s ≡ o
  header_is mode m o p r = ap (λ a. found (and_then a (λ m. around m.form s))) p ∙ ap found r

  -- Mode 0 is reading itself.
  pub by_present : read_by limit 0 s ≡ read_sheet limit s
  unfolding read_by
  by_present = go (read_sheet limit s)
    where
      go : (r : Answer Sheet) → and_then r (last present) ≡ r
      go (value n) = refl
      go (refused code item) = refl

  -- A sheet that is read in any mode is within the limits.
  pub by_fits : limit < 2 ^ 32 → All (λ b. b < 256) s → (mode : ℕ) (n : Sheet) → read_by limit mode s ≡ value n → T (sheet_fits limit n)
  by_fits small bytes mode n e =
      let w = (by_value mode n).0 e in
      let t = behind w.header s in
      go w.known.edition w.sheet (read_written limit small t (all_behind (λ b. b < 256) w.header s bytes) w.sheet ((read_sheet_is limit t w.sheet).0 w.read)) w.is
    where
      go : (i : Edition) (m : Sheet) → T (sheet_fits limit m) → edited i m ≡ n → T (sheet_fits limit n)
      go present m h t = rw (← t) h
      go older m h t = rw (← t) (turned_fits limit m h)

-- ---- which numbers are modes
-- An unknown mode is refused 57 with item 0, and no other code comes of a mode.
pub mode_unknown : (mode : ℕ) → 3 < mode → mode_of mode ≡ refused 57 0
mode_unknown mode h = rw (ne_eqb mode 0 (λ e. omega arith), ne_eqb mode 1 (λ e. omega arith), ne_eqb mode 2 (λ e. omega arith), ne_eqb mode 3 (λ e. omega arith))

pub mode_refused : (mode code item : ℕ) → mode_of mode ≡ refused code item → (code ≡ 57) × (item ≡ 0)
mode_refused zero code item e = absurd (value_refused _ code item e)
mode_refused (suc zero) code item e = absurd (value_refused _ code item e)
mode_refused (suc (suc zero)) code item e = absurd (value_refused _ code item e)
mode_refused (suc (suc (suc zero))) code item e = absurd (value_refused _ code item e)
mode_refused (suc (suc (suc (suc mode)))) code item e = (same_refusal {A = Mode} 57 0 code item).0 (sym (mode_unknown (suc (suc (suc (suc mode)))) (omega arith)) ∙ e)

-- Modes 0 and 1 are sheets by themselves, modes 2 and 3 blobs; the odd ones are of the older edition.
pub plain_mode : (mode : ℕ) → mode < 2 → mode_of mode ≡ value (record { form = plain; edition = cond (eqb mode 1) older present })
plain_mode zero h = refl
plain_mode (suc zero) h = refl
plain_mode (suc (suc mode)) h = absurd (omega arith)

pub blob_mode : (mode : ℕ) → 2 ≤ mode → mode ≤ 3 → mode_of mode ≡ value (record { form = blob; edition = cond (eqb mode 3) older present })
blob_mode zero l h = absurd (omega arith)
blob_mode (suc zero) l h = absurd (omega arith)
blob_mode (suc (suc zero)) l h = refl
blob_mode (suc (suc (suc zero))) l h = refl
blob_mode (suc (suc (suc (suc mode)))) l h = absurd (omega arith)
