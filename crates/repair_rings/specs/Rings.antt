-- The rings that the boundary sides of a set make up, and the closed lines of their points.
use Rattle.std.specs.Prelude.{Bool, cond, ℕ, zero, suc, leb, length}
use mathlib.Core.List.{List, [], ◌∷◌, ◌++◌, map, flat_map}
use Rattle.whole.specs.Sums.{any, every, passing}
use Rattle.plane.specs.Points.{Edge, same_edge}
use Rattle.plane.specs.Members.{Ring}
use Rattle.plane_turning.specs.Turning.{following}
use Rattle.table.specs.Opposites.{found_at}

-- The sides from e on, each the one that follows the one before, until the next would be the first one; n + 1 sides at most.
unfoldable pub on_from : ℕ → List Edge → (first e : Edge) → List Edge
on_from zero l first e = e ∷ []
on_from (suc n) l first e = e ∷ cond (same_edge (following l e) first) [] (on_from n l first (following l e))

-- The ring that begins with a side of the list.
abbrev pub ring_of : List Edge → Edge → List Edge
ring_of l e = on_from (length l) l e e

-- The side stands before all others of its ring in the list.
abbrev pub leads : List Edge → Edge → Bool
leads l e = every (λ x. leb (found_at e l) (found_at x l)) (ring_of l e)

-- The rings of a list of sides: each begins at its earliest side, and they stand in the order of those first sides.
unfoldable pub rings : List Edge → List (List Edge)
rings l = map (ring_of l) (passing (leads l) l)

-- The same as a program finds them: the rings that begin with the sides of m which no ring before them has; `taken` are the sides that earlier rings have.
unfoldable pub rings_over : List Edge → (taken m : List Edge) → List (List Edge)
rings_over l taken [] = []
rings_over l taken (e ∷ m) = cond (any (same_edge e) taken) (rings_over l taken m) (ring_of l e ∷ rings_over l (ring_of l e ++ taken) m)

-- The sides of all rings, one ring after the other.
abbrev pub joined : List (List Edge) → List Edge
joined = flat_map (λ r. r)

-- The points of a ring in order, the closing point included: the first side's beginning, then each side's end.
abbrev pub points_of : List Edge → Ring
points_of [] = []
points_of (e ∷ r) = e.from ∷ map (λ d. d.to) (e ∷ r)

-- The closed lines that a list of sides makes up.
abbrev pub lines : List Edge → List Ring
lines l = map points_of (rings l)
