-- Boundaries: to each ordered pair how often it occurs less how often its reverse does.
use Rattle.std.specs.Prelude.{◌≡◌, Bool, ℤ}
use mathlib.Core.List.{List, ◌++◌, flat_map}
use Rattle.whole.specs.Numbers.{eq_z}
use Rattle.whole.specs.Sums.{every, net}
use Rattle.plane.specs.Points.{Edge, Triangle, flip, sides, same_edge}

-- The boundary of a list of ordered pairs gives (u, v) the number of pairs uv in the list, less the number of pairs vu.
abbrev pub boundary : List Edge → Edge → ℤ
boundary l e = net same_edge flip e l

-- Two lists of ordered pairs have the same boundary: equal at every ordered pair.
abbrev pub SameBoundary : List Edge → List Edge → Type 0
SameBoundary l m = (e : Edge) → boundary l e ≡ boundary m e

-- The test for the same boundary looks at the ordered pairs that occur in the two lists; at every other pair both boundaries are 0 or follow from these.
unfoldable pub agree : List Edge → List Edge → Bool
agree l m = every (λ e. eq_z (boundary l e) (boundary m e)) (l ++ m)

-- All sides of a list of triangles: its boundary is the boundary of that set of triangles.
abbrev pub sides_of : List Triangle → List Edge
sides_of = flat_map sides
