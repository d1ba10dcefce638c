-- A ring within document 01's limits.
use Rattle.std.specs.Prelude.{◌≡◌, ◌-◌, ◌≤◌, pos, length, get_or}
use Rattle.plane.specs.Points.{Point}
use Rattle.plane.specs.Members.{Ring}

abbrev pub origin : Point
origin = record { x = pos 0; y = pos 0 }

-- The last point of a ring is its first.
abbrev pub Closed : Ring → Type 0
Closed r = get_or r (length r - 1) origin ≡ get_or r 0 origin

-- A ring has 4 to 4,096 points, the closing point included, and is closed.
pub record RingLimits (r : Ring) : Type 0 where
  pub low : 4 ≤ length r
  pub high : length r ≤ 4096
  pub closed : Closed r
