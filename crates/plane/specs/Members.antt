-- Rings, polygons and members in numbers, their edges and double area.
use mathlib.Core.List.{List, [], ◌∷◌, flat_map}
use Rattle.std.specs.Prelude.{ℤ}
use Rattle.whole.specs.Sums.{sum}
use Rattle.plane.specs.Points.{Point, Edge, ◌⟶◌, cross}

-- A ring is the list of its points in order, closed: the closing point is included. A polygon is its list of rings, and a member of
-- the sheet its list of polygons with nesting unfolded.
abbrev pub Ring : Type 0
Ring = List Point

abbrev pub Polygon : Type 0
Polygon = List Ring

abbrev pub Member : Type 0
Member = List Polygon

-- The edges of a ring: each point to the next.
abbrev pub edges : Ring → List Edge
edges [] = []
edges (p ∷ []) = []
edges (p ∷ q ∷ l) = (p ⟶ q) ∷ edges (q ∷ l)

-- The edges of all rings of all polygons of a member.
abbrev pub member_edges : Member → List Edge
member_edges = flat_map (flat_map edges)

-- A member's double area is the sum over its ring edges of px·qy - qx·py.
unfoldable pub double_area : Member → ℤ
double_area m = sum cross (member_edges m)
