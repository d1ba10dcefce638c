-- Worked examples: two triangles that touch at a corner make one line, since the sharpest turn to the right there goes over from one to the other,
-- also where the line begins at that corner; two that lie apart make two. Each is computed from the definitions. Assumes nothing.
use mathlib.Core.Path.{◌≡◌, refl}
use mathlib.Core.List.{[], ◌∷◌, flat_map}
use Prim.Native.Nat.{ℕ}
use lib.IntN.{pos}
use Rattle.plane.specs.Points.{Point, Triangle, turn}
use Rattle.repair_sides.specs.Sides.{boundary_sides}
use Rattle.plane_turning.specs.Turning.{sharper, sharpest, following}
use Rattle.repair_rings.specs.Rings.{on_from, rings, lines}

abbrev at : ℕ → ℕ → Point
at x y = record { x = pos x; y = pos y }

abbrev triangle : Point → Point → Point → Triangle
triangle a b c = record { a = a; b = b; c = c }

pub touching : lines (boundary_sides (triangle (at 0 0) (at 1 0) (at 1 1) ∷ triangle (at 1 1) (at 2 1) (at 2 2) ∷ []))
    ≡ (at 0 0 ∷ at 1 0 ∷ at 1 1 ∷ at 2 1 ∷ at 2 2 ∷ at 1 1 ∷ at 0 0 ∷ []) ∷ []
unfolding boundary_sides rings on_from following sharpest sharper turn flat_map
touching = refl

-- The line begins where the two touch, and doesn't end where it comes back there for the first time.
pub from_the_touch : lines (boundary_sides (triangle (at 1 1) (at 0 0) (at 1 0) ∷ triangle (at 1 1) (at 2 1) (at 2 2) ∷ []))
    ≡ (at 1 1 ∷ at 0 0 ∷ at 1 0 ∷ at 1 1 ∷ at 2 1 ∷ at 2 2 ∷ at 1 1 ∷ []) ∷ []
unfolding boundary_sides rings on_from following sharpest sharper turn flat_map
from_the_touch = refl

pub lying_apart : lines (boundary_sides (triangle (at 0 0) (at 2 0) (at 2 4) ∷ triangle (at 4 0) (at 6 0) (at 6 4) ∷ []))
    ≡ (at 0 0 ∷ at 2 0 ∷ at 2 4 ∷ at 0 0 ∷ []) ∷ (at 4 0 ∷ at 6 0 ∷ at 6 4 ∷ at 4 0 ∷ []) ∷ []
unfolding boundary_sides rings on_from following sharpest sharper turn flat_map
lying_apart = refl
