-- A ring that stands among held numbers.
use Rattle.std.specs.Prelude.{List, ℕ, ◌+◌, ◌*◌, ℤ, length, take}
use Rattle.whole.specs.Sums.{All}
use Rattle.plane.specs.Members.{Ring}
use Rattle.plane.specs.Keys.{Held}
use Rattle.plane_rings.specs.Closed.{RingLimits}
use Rattle.sheet_form.specs.Numbers.{ring_numbers}
use Rattle.sheet_edges.specs.Standing.{NumbersAt}

-- The ring r, within the limits, stands at the place, and rest behind it; every number up to its end is one of a coordinate.
pub record RingAt (numbers : List ℕ) (at : ℕ) (r : Ring) (rest : List ℤ) : Type 0 where
  pub held : All Held (take (at + 1 + 2 * length r) numbers)
  pub numbers_at : NumbersAt ring_numbers numbers at r rest
  pub limits : RingLimits r
