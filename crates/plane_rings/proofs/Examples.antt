-- Turning by example: each theorem computes. Assumes nothing.
use mathlib.Core.Path.{◌≡◌, refl}
use mathlib.Core.List.{[], ◌∷◌}
use lib.IntN.{ℤ, pos}
use Rattle.plane.specs.Points.{Point, cross}
use Rattle.plane.specs.Members.{Ring}
use Rattle.plane_rings.specs.Rings.{ring_area}
use Rattle.plane_rings.specs.Corners.{corner_sum}
use Rattle.plane_rings.specs.Turning.{outward, inward, turn_polygon, turn_member}

abbrev pub at : ℤ → ℤ → Point
at x y = record { x = x; y = y }

-- A square of side 2 each way round, and a ring that goes to and fro.
abbrev pub left : Ring
left = at (pos 1) (pos 1) ∷ at (pos 3) (pos 1) ∷ at (pos 3) (pos 3) ∷ at (pos 1) (pos 3) ∷ at (pos 1) (pos 1) ∷ []

abbrev pub right : Ring
right = at (pos 1) (pos 1) ∷ at (pos 1) (pos 3) ∷ at (pos 3) (pos 3) ∷ at (pos 3) (pos 1) ∷ at (pos 1) (pos 1) ∷ []

abbrev pub flat : Ring
flat = at (pos 1) (pos 1) ∷ at (pos 3) (pos 1) ∷ at (pos 5) (pos 1) ∷ at (pos 1) (pos 1) ∷ []

-- The square that goes to the left has double area 8, by its edges and by its corners.
pub by_edges : ring_area left ≡ pos 8
unfolding ring_area cross
by_edges = refl

pub by_corners : corner_sum left ≡ pos 8
unfolding corner_sum
by_corners = refl

-- A first ring that goes to the right and a later one that goes to the left are turned; the first ring of each polygon, not of each member.
pub both_turned : turn_polygon (right ∷ left ∷ []) ≡ left ∷ right ∷ []
unfolding outward inward ring_area cross
both_turned = refl

pub each_polygon : turn_member ((right ∷ []) ∷ (right ∷ left ∷ []) ∷ []) ≡ (left ∷ []) ∷ (left ∷ right ∷ []) ∷ []
unfolding outward inward ring_area cross
each_polygon = refl

-- What goes as it should stays, and so does a ring of double area 0.
pub as_it_should : turn_polygon (left ∷ right ∷ []) ≡ left ∷ right ∷ []
unfolding outward inward ring_area cross
as_it_should = refl

pub flat_stays : turn_polygon (flat ∷ flat ∷ []) ≡ flat ∷ flat ∷ []
unfolding outward inward ring_area cross
flat_stays = refl
