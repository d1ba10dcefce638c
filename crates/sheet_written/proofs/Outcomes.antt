-- What writing answers and leaves of the lent bytes, against what it comes to. Assumes nothing.
use mathlib.Core.Path.{◌≡◌, sym, ap, subst}
use mathlib.Core.List.{List, ◌++◌}
use mathlib.Core.Option.{Option, none, some}
use Prim.Native.Nat.{ℕ, ◌*◌, ◌≤◌, ◌<◌}
use lib.ListN.{length, drop}
use Rattle.lent.specs.Answered.{Answered}
use Rattle.lent.proofs.Answered.{answered_refusal, answered_short, answered_bytes}
use Rattle.sheet_form.specs.Numbers.{Sheet}
use Rattle.sheet_written.specs.Normal.{written}
use Rattle.sheet_written.specs.Given.{write_outcome}

module _ (x : Option Sheet) (lent : List ℕ) where
  pub none_given : x ≡ none → Answered (write_outcome x) lent 42 lent
  none_given e = answered_refusal (write_outcome x) lent 42 0 (ap write_outcome e)

  module _ (n : Sheet) (e : x ≡ some n) where
    pub too_long : length lent < length (written n) → Answered (write_outcome x) lent 40 lent
    too_long h = answered_short (write_outcome x) lent (length (written n)) (written n) (ap write_outcome e) h

    pub written_over : (after : List ℕ) (k : ℕ) → k ≡ length (written n) → length (written n) ≤ length lent → after ≡ written n ++ drop (length (written n)) lent
        → Answered (write_outcome x) lent (k * 256) after
    written_over after k q h f = subst (λ m. Answered (write_outcome x) lent (m * 256) after) (sym q) (answered_bytes (write_outcome x) lent (length (written n)) (written n) (ap write_outcome e) after h f)
