-- A polygon whose rings go as they should.
use Rattle.std.specs.Prelude.{[], ◌∷◌, pos, ◌≤ℤ◌}
use Rattle.whole.specs.Sums.{All}
use Rattle.plane.specs.Members.{Polygon}
use Rattle.plane_rings.specs.Rings.{ring_area}

-- The first ring's double area is not negative, and that of no later ring is positive.
abbrev pub Directed : Polygon → Type 0
Directed [] = Unit {0}
Directed (r ∷ rs) = (pos 0 ≤ℤ ring_area r) × All (λ s. ring_area s ≤ℤ pos 0) rs
