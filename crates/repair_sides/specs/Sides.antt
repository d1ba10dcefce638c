-- The boundary sides of a polygon after repair: each side uv of its triangles whose vu is no side of those, by triangle and then ab, bc, ca.
use Rattle.std.specs.Prelude.{Bool, not, List, map, ℕ, eqb}
use Rattle.whole.specs.Sums.{any, passing}
use Rattle.plane.specs.Points.{Edge, Triangle, flip, same_edge}
use Rattle.plane.specs.Boundaries.{sides_of}
use Rattle.table.specs.Sets.{chosen}

-- No side of the list is the reverse of this one.
abbrev pub unmatched : List Edge → Edge → Bool
unmatched sides e = not (any (λ d. same_edge d (flip e)) sides)

-- The boundary sides of a set of triangles.
unfoldable pub boundary_sides : List Triangle → List Edge
boundary_sides set = passing (unmatched (sides_of set)) (sides_of set)

-- The triangles that a polygon owns, by the owner number of each triangle of the table.
abbrev pub owned_by : ℕ → List ℕ → List Bool
owned_by polygon = map (λ owner. eqb owner polygon)

abbrev pub triangles_owned : List Triangle → List ℕ → ℕ → List Triangle
triangles_owned table owners polygon = chosen table (owned_by polygon owners)
