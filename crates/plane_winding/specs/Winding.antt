-- Which triangles a grid point belongs to, and how often edges wind round it.
use Rattle.std.specs.Prelude.{Bool, ◌&&◌, ◌||◌, List, ℤ, pos, ◌-ℤ◌}
use Rattle.std.specs.Int.Signed.{le_z, lt_z}
use Rattle.whole.specs.Numbers.{eq_z}
use Rattle.whole.specs.Sums.{bit, sum}
use Rattle.plane.specs.Points.{Point, Edge, Triangle, ◌⟶◌, turn}

-- The side runs downward, or level to the right.
abbrev pub leans : Edge → Bool
leans e = lt_z e.to.y e.from.y || eq_z e.from.y e.to.y && lt_z e.from.x e.to.x

-- The point is strictly to the left of the side, or lies on the line of a side that runs downward, or on that of a side that runs level to the right.
abbrev pub keeps : Point → Edge → Bool
keeps z e = lt_z (pos 0) (turn e.from e.to z) || eq_z (turn e.from e.to z) (pos 0) && leans e

-- A point belongs to a triangle if each side keeps it.
unfoldable pub belongs : Point → Triangle → Bool
belongs z t = keeps z (t.a ⟶ t.b) && keeps z (t.b ⟶ t.c) && keeps z (t.c ⟶ t.a)

-- To how many of the triangles the point belongs.
abbrev pub coverage : Point → List Triangle → ℤ
coverage z = sum (λ t. pos (bit (belongs z t)))

-- 1 for an edge that begins at or below the point's height and ends above it, with the point strictly to its left; less 1 for one that begins above and
-- ends at or below, with the point strictly to its right.
unfoldable pub wind : Point → Edge → ℤ
wind z e =
    pos (bit (le_z e.from.y z.y && lt_z z.y e.to.y && lt_z (pos 0) (turn e.from e.to z)))
    -ℤ pos (bit (le_z e.to.y z.y && lt_z z.y e.from.y && lt_z (turn e.from e.to z) (pos 0)))

-- How often edges wind round the point.
abbrev pub winding : Point → List Edge → ℤ
winding z = sum (wind z)
