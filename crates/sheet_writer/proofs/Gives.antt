-- The sheet that the bytes give, against what the walk over it came to: what is emitted is the bytes of a sheet within the limits, so that a walk that comes
-- to its end wrote the sheet that is given and one that doesn't says that none is. Assumes nothing.
use mathlib.Core.Path.{◌≡◌, refl, sym, ◌∙◌, ap, subst}
use mathlib.Core.Bool.{Bool, true, false, cond}
use mathlib.Core.List.{List, ◌++◌}
use mathlib.Core.Option.{Option, none, some, none-ne-some, some-injective}
use Prim.Native.Nat.{ℕ, ◌%◌, ◌≤◌, ◌<◌}
use native.Mathlib.Nat.{zero-add}
use native.Mathlib.Omega.{arith}
use borrow.Author.Tests.{eq-eqb, ne_eqb}
use lib.Dec.{T}
use lib.ListN.{length, drop}
use lib.Seq.{sets, sets-eq}
use Rattle.sheet_form.specs.Numbers.{Sheet, members, numbers_of}
use Rattle.sheet_written.specs.Fits.{sheet_fits}
use Rattle.sheet_form.specs.Form.{sheet_in, numbers_in}
use Rattle.sheet_written.specs.Given.{limited, sheet_given}
use Rattle.sheet_written.specs.Normal.{written}
use Rattle.sheet_form.proofs.Form.{form_is}
use Rattle.sheet_written.proofs.Trip.{form_small}
use Rattle.std.specs.Prelude.{Option as Maybe, None, Some}
use Rattle.sheet_writer.specs.Emit.{emit_sheet}
use Rattle.sheet_writer.specs.Walks.{Ended}
use Rattle.sheet_writer.proofs.Emits.{written_for, emit_sheet_lem}
use Rattle.sheet_writer.proofs.Numbers.{numbers_length}

-- A sheet that is given is within the limits.
record Given (x : Option Sheet) (n : Sheet) : Type 0 where
  is : x ≡ some n
  fits : T (sheet_fits members n)

given : (x : Option Sheet) (n : Sheet) → limited members x ≡ some n → Given x n
given none n e = absurd (none-ne-some _ e)
given (some m) n e = go (sheet_fits members m) refl e
  where
    go : (b : Bool) → sheet_fits members m ≡ b → cond b (some m) none ≡ some n → Given (some m) n
    go true f e = let q = some-injective m n e in record { is = ap some q; fits = subst (λ k. T (sheet_fits members k)) q (subst T (sym f) tt) }
    go false f e = absurd (none-ne-some _ e)

pub record Seen (s : List ℕ) (k : ℕ) : Type 0 where
  pub sheet : Sheet
  pub is : sheet_given members s ≡ some sheet
  pub size : k ≡ length (written sheet)

module _ (s : List ℕ) where
  -- A length that is no multiple of 4.
  pub given_odd : (length s % 4 ≡ 0 → ⊥) → sheet_given members s ≡ none
  unfolding sheet_given
  given_odd h = rw (ne_eqb (length s % 4) 0 h) refl

  module _ (fours : length s % 4 ≡ 0) where
    is_limited : sheet_given members s ≡ limited members (sheet_in (numbers_in s))
    unfolding sheet_given
    is_limited = rw (eq-eqb (length s % 4) 0 fours) refl

    -- More numbers than any sheet has.
    pub given_long : 65800 < length s → sheet_given members s ≡ none
    given_long h = go (sheet_given members s) refl
      where
        go : (x : Option Sheet) → sheet_given members s ≡ x → x ≡ none
        go none e = refl
        go (some n) e =
            let g = given (sheet_in (numbers_in s)) n (sym is_limited ∙ e) in
            let q : length (numbers_of n) ≡ length (numbers_in s) = ap length ((form_is (numbers_in s) n).0 g.is) in
            let k = form_small members (omega arith) n g.fits in
            let l = numbers_length s in
            absurd (omega arith)

    for : emit_sheet (numbers_in s) ≡ written_for (sheet_given members s)
    for = emit_sheet_lem (numbers_in s) ∙ ap written_for (sym is_limited)

    pub ended_ill : (before after : List ℕ) → Ended (emit_sheet (numbers_in s)) before None after → sheet_given members s ≡ none
    ended_ill before after h = go (sheet_given members s) (sym for ∙ h.0)
      where
        go : (x : Option Sheet) → written_for x ≡ none → x ≡ none
        go none k = refl
        go (some n) k = absurd (none-ne-some _ (sym k))

    -- A sheet is given, and the walk tells how long it is.
    pub ended_well : (before after : List ℕ) (k : ℕ) → Ended (emit_sheet (numbers_in s)) before (Some k) after → Seen s k
    ended_well before after k (b, is, size, left) = go (sheet_given members s) refl (sym for ∙ is)
      where
        go : (x : Option Sheet) → sheet_given members s ≡ x → written_for x ≡ some b → Seen s k
        go none e q = absurd (none-ne-some _ q)
        go (some n) e q = record { sheet = n; is = e; size = size ∙ ap length (sym (some-injective _ _ q)) }

    -- The walk over the lent bytes writes the sheet that is given.
    pub written_again : (before after : List ℕ) (r : Maybe ℕ) (n : Sheet) → sheet_given members s ≡ some n → Ended (emit_sheet (numbers_in s)) before r after → length (written n) ≤ length before
        → after ≡ written n ++ drop (length (written n)) before
    written_again before after None n e h fits = absurd (none-ne-some _ (sym (ended_ill before after h) ∙ e))
    written_again before after (Some k) n e (b, is, size, left) fits =
        let q : written n ≡ b = some-injective _ _ (sym (for ∙ ap written_for e) ∙ is) in
        left ∙ ap (sets before 0) (sym q) ∙ sets-eq (written n) before 0 (omega arith) ∙ (rw (zero-add (length (written n))) refl)
