-- Which of the standard's trees are sheets within document 01's limits, and the sheet in numbers that such a tree unfolds to.
use Rattle.std.specs.Prelude.{◌≡◌, Option, Some, None, ◌⊎◌, List, [], ◌∷◌, ◌++◌, map, ℕ, zero, suc, ◌+◌, ◌-◌, ◌^◌, ◌≤◌, ◌<◌, ℤ, pos, length, get_or}
use Rattle.std.specs.Float.{binary64}
use Rattle.std.specs.Float.Ieee.{of_bits}
use Rattle.whole.specs.Sums.{All}
use Rattle.plane.specs.Points.{Point, Triangle}
use Rattle.plane.specs.Members.{Ring, Member}
use Rattle.plane.specs.Corners.{millimetres}
use Rattle.sheet_coordinate.specs.Coordinate.{coordinate_of}
use Rattle.wkb_kinds.specs.declared.Kind.TheVariants.{Polygon, MultiPolygon, Collection, Tin, Triangle as Three}
use Rattle.wkb.specs.Standard.{Pair, Geometry, ringed, holding, Geometries, none, ◌then◌, count}
use Rattle.sheet_form.specs.Numbers.{Sheet}

-- ---- what a tree unfolds to
-- The whole number that the double of a pattern equals (0 where it is not a coordinate).
abbrev pub whole_of : Option ℕ → ℤ
whole_of (Some h) = millimetres h
whole_of None = pos 0

unfoldable pub number_of : ℕ → ℤ
number_of pattern = whole_of (coordinate_of (of_bits binary64 pattern))

abbrev pub point_of : Pair → Point
point_of p = record { x = number_of p.x; y = number_of p.y }

abbrev pub ring_of : List Pair → Ring
ring_of = map point_of

-- A member is its list of polygons with nesting unfolded.
unfoldable mutual
  pub member_of : Geometry → Member
  member_of (ringed little kind rs) = map ring_of rs ∷ []
  member_of (holding little kind gs) = members_of gs

  pub members_of : Geometries → Member
  members_of none = []
  members_of (g then gs) = member_of g ++ members_of gs

-- A table piece is the first three points of its ring.
abbrev pub corner : ℕ → List (List Pair) → Point
corner k rs = point_of (get_or (get_or rs 0 []) k (record { x = 0; y = 0 }))

unfoldable pub triangle_of : Geometry → Triangle
triangle_of (ringed little kind rs) = record { a = corner 0 rs; b = corner 1 rs; c = corner 2 rs }
triangle_of (holding little kind gs) = record { a = corner 0 []; b = corner 0 []; c = corner 0 [] }

abbrev pub each : {A : Type 0} → (Geometry → A) → Geometries → List A
each f none = []
each f (g then gs) = f g ∷ each f gs

abbrev pub table_of : Geometry → List Triangle
table_of (ringed little kind rs) = []
table_of (holding little kind gs) = each triangle_of gs

unfoldable pub sheet_of : Geometry → Sheet
sheet_of (ringed little kind rs) = record { table = []; polygons = [] }
sheet_of (holding little kind none) = record { table = []; polygons = [] }
sheet_of (holding little kind (t then ms)) = record { table = table_of t; polygons = each member_of ms }

-- ---- the limits
abbrev pub FromTo : ℕ → ℕ → ℕ → Type 0
FromTo low high n = (low ≤ n) × (n ≤ high)

-- A pattern of 8 bytes whose double is a coordinate.
pub record IsCoordinate (pattern : ℕ) : Type 0 where
  pub eight : pattern < 2 ^ 64
  pub h : ℕ
  pub is : coordinate_of (of_bits binary64 pattern) ≡ Some h

-- A ring has so many points, each of two coordinates, and its last point is its first, as whole numbers.
pub record RingFits (low high : ℕ) (r : List Pair) : Type 0 where
  pub number : FromTo low high (length r)
  pub points : All (λ p. IsCoordinate p.x × IsCoordinate p.y) r
  pub closed : point_of (get_or r (length r - 1) (record { x = 0; y = 0 })) ≡ point_of (get_or r 0 (record { x = 0; y = 0 }))

-- A polygon has 1 to 64 rings of 4 to 4,096 points, a table piece one ring of 4 points.
abbrev pub PolygonFits : List (List Pair) → Type 0
PolygonFits rs = FromTo 1 64 (length rs) × All (RingFits 4 4096) rs

abbrev pub PieceFits : Geometry → Type 0
PieceFits (ringed little kind rs) = ((kind ≡ Three) ⊎ (kind ≡ Polygon)) × (length rs ≡ 1) × All (RingFits 4 4) rs
PieceFits (holding little kind gs) = ⊥

abbrev pub PartFits : Geometry → Type 0
PartFits (ringed little kind rs) = (kind ≡ Polygon) × PolygonFits rs
PartFits (holding little kind gs) = ⊥

abbrev pub Each : (Geometry → Type 0) → Geometries → Type 0
Each P none = Unit {0}
Each P (g then gs) = P g × Each P gs

-- A member is a Polygon, a MultiPolygon, or, so many collections deep at most, a GeometryCollection of these.
unfoldable mutual
  pub MemberFits : Geometry → ℕ → Type 0
  MemberFits (ringed little kind rs) deep = (kind ≡ Polygon) × PolygonFits rs
  MemberFits (holding little kind gs) deep =
      FromTo 1 64 (count gs) × (((kind ≡ MultiPolygon) × Each PartFits gs) ⊎ ((kind ≡ Collection) × MembersFit gs deep))

  pub MembersFit : Geometries → ℕ → Type 0
  MembersFit none zero = ⊥
  MembersFit none (suc deep) = Unit {0}
  MembersFit (g then gs) zero = ⊥
  MembersFit (g then gs) (suc deep) = MemberFits g deep × MembersFit gs (suc deep)

-- The points in the polygons of a member, closing points included.
abbrev pub ring_lengths : List Ring → ℕ
ring_lengths [] = 0
ring_lengths (r ∷ l) = length r + ring_lengths l

abbrev pub lengths : Member → ℕ
lengths [] = 0
lengths (p ∷ m) = ring_lengths p + lengths m

abbrev pub all_lengths : List Member → ℕ
all_lengths [] = 0
all_lengths (m ∷ l) = lengths m + all_lengths l

-- A sheet within the limits: a collection of at most so many members, first a table of 2 to 1,024 pieces, then members with at most 64 polygons
-- each after unfolding and 4,096 points in all; collections at most 4 deep with the sheet counted as 1.
abbrev pub TableFits : Geometry → Type 0
TableFits (ringed little kind rs) = ⊥
TableFits (holding little kind gs) = (kind ≡ Tin) × FromTo 2 1024 (count gs) × Each PieceFits gs

unfoldable pub SheetFits : ℕ → Geometry → Type 0
SheetFits limit (ringed little kind rs) = ⊥
SheetFits limit (holding little kind none) = ⊥
SheetFits limit (holding little kind (t then ms)) =
    (kind ≡ Collection) × (count (t then ms) ≤ limit) × TableFits t × Each (λ g. MemberFits g 3 × (length (member_of g) ≤ 64)) ms × (all_lengths (each member_of ms) ≤ 4096)
