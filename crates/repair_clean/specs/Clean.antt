-- A sheet whose members have the rings of the polygons after repair.
use Rattle.std.specs.Prelude.{◌≡◌, ℕ, leb, eqb}
use mathlib.Core.List.{List, [], ◌∷◌, flat_map}
use Rattle.whole.specs.Sums.{count, passing}
use Rattle.plane.specs.Points.{Edge, Triangle, same_edge}
use Rattle.plane.specs.Members.{Ring, Member, edges, member_edges}
use Rattle.repair_regions.specs.Regions.{from}
use Rattle.repair_sides.specs.Sides.{boundary_sides, triangles_owned}
use Rattle.repair_rings.specs.Rings.{lines}

-- The rings of polygon p after repair, by the owner number of each triangle of the table: the closed lines of its boundary sides.
abbrev pub rings_after : List Triangle → List ℕ → ℕ → List Ring
rings_after table owners p = lines (boundary_sides (triangles_owned table owners p))

-- The member has the rings of polygon p, grouped into parts in whatever way and order: it has each edge as often as they have.
abbrev pub HasRings : List Triangle → List ℕ → ℕ → Member → Type 0
HasRings table owners p m = (e : Edge) → count same_edge e (member_edges m) ≡ count same_edge e (flat_map edges (rings_after table owners p))

-- There is a member for each polygon number of a list, in its order, and it has the rings of that polygon.
abbrev pub EachHasRings : List Triangle → List ℕ → List ℕ → List Member → Type 0
EachHasRings table owners [] [] = Unit {0}
EachHasRings table owners [] (m ∷ ms) = ⊥
EachHasRings table owners (p ∷ ps) [] = ⊥
EachHasRings table owners (p ∷ ps) (m ∷ ms) = HasRings table owners p m × EachHasRings table owners ps ms

-- Of the polygons 1 to n those that own a triangle after repair.
abbrev pub still_owning : ℕ → List ℕ → List ℕ
still_owning n owners = passing (λ p. leb 1 (count eqb p owners)) (from 1 n)
