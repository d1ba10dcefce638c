-- The numbers form of a sheet: the triangle count and six numbers each, the polygon count, then for each its parts, rings and points,
-- every count before what it counts, rings closed.
use mathlib.Core.List.{List, [], ◌∷◌, ◌++◌, flat_map}
use Rattle.std.specs.Prelude.{ℕ, ℤ, pos, length}
use Rattle.plane.specs.Points.{Point, Triangle}
use Rattle.plane.specs.Members.{Ring, Polygon, Member}

-- A sheet in numbers: the triangles of its table and its polygons.
pub record Sheet : Type 0 where
  pub table : List Triangle
  pub polygons : List Member

-- A sheet has at most 65 members, the table and 64 polygons.
abbrev pub members : ℕ
members = 65

abbrev pub point_numbers : Point → List ℤ
point_numbers p = p.x ∷ p.y ∷ []

abbrev pub triangle_numbers : Triangle → List ℤ
triangle_numbers t = point_numbers t.a ++ point_numbers t.b ++ point_numbers t.c

-- A list of things as numbers: how many there are, and then each.
abbrev pub counted : {A : Type 0} → (A → List ℤ) → List A → List ℤ
counted f l = pos (length l) ∷ flat_map f l

abbrev pub ring_numbers : Ring → List ℤ
ring_numbers = counted point_numbers

abbrev pub part_numbers : Polygon → List ℤ
part_numbers = counted ring_numbers

abbrev pub member_numbers : Member → List ℤ
member_numbers = counted part_numbers

abbrev pub numbers_of : Sheet → List ℤ
numbers_of n = counted triangle_numbers n.table ++ counted member_numbers n.polygons
