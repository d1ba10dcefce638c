-- Which side follows an arriving one: the sharpest turn to the right.
use Rattle.std.specs.Prelude.{Bool, cond, ◌&&◌, ◌||◌, List, [], ◌∷◌, pos}
use Rattle.std.specs.Int.Signed.{le_z, lt_z}
use Rattle.plane.specs.Points.{Point, Edge, same_point, turn}

-- For one who arrives by uv the way on to w is a sharper turn to the right than the way on to x: w is to the right and x is not; or w is not to
-- the left and x is; or both are to the same side, and x is to the left of the way on to w.
unfoldable pub sharper : (u v w x : Point) → Bool
sharper u v w x =
    cond (lt_z (turn u v w) (pos 0)) (le_z (pos 0) (turn u v x) || lt_z (pos 0) (turn v w x))
    (lt_z (pos 0) (turn u v x) && (le_z (turn u v w) (pos 0) || lt_z (pos 0) (turn v w x)))

-- The side d leaves the end of e, and turns sharper to the right there than c.
abbrev pub beats : (e d c : Edge) → Bool
beats e d c = same_point d.from e.to && sharper e.from e.to d.to c.to

-- The sharpest turn to the right from e: c, or a side of the list that leaves e's end.
unfoldable pub sharpest : (e c : Edge) → List Edge → Edge
sharpest e c [] = c
sharpest e c (d ∷ l) = sharpest e (cond (beats e d c) d c) l

-- The side of the list that follows e: of those that leave e's end the sharpest turn to the right, measured from e. (e itself where none leaves.)
unfoldable pub following : List Edge → Edge → Edge
following [] e = e
following (d ∷ l) e = cond (same_point d.from e.to) (sharpest e d l) (following l e)
