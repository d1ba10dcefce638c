-- The normal bytes of a sheet: byte order 1 throughout, a table of type 16 with pieces of type 17, a Polygon where a member has one polygon,
-- else a MultiPolygon, and +0 for zero.
use Rattle.std.specs.Prelude.{true, List, [], ◌∷◌, map, ℕ, ℤ}
use Rattle.std.specs.Float.{binary64}
use Rattle.std.specs.Float.Ieee.{of_int, to_bits}
use Rattle.plane.specs.Points.{Point, Triangle}
use Rattle.plane.specs.Members.{Polygon, Member}
use Rattle.wkb_kinds.specs.declared.Kind.TheVariants.{Polygon as One, MultiPolygon, Collection, Tin, Triangle as Three}
use Rattle.wkb.specs.Standard.{Pair, Geometry, ringed, holding, Geometries, none, ◌then◌, encode}
use Rattle.sheet_form.specs.Numbers.{Sheet}

-- The pattern of the double that equals a whole number.
unfoldable pub pattern_of : ℤ → ℕ
pattern_of z = to_bits binary64 (of_int binary64 z)

abbrev pub pair_of : Point → Pair
pair_of p = record { x = pattern_of p.x; y = pattern_of p.y }

-- A table piece is a Triangle, its ring closed by the first point.
abbrev pub piece_of : Triangle → Geometry
piece_of t = ringed true Three (map pair_of (t.a ∷ t.b ∷ t.c ∷ t.a ∷ []) ∷ [])

abbrev pub part_of : Polygon → Geometry
part_of p = ringed true One (map (map pair_of) p)

-- The geometries of a list of things.
abbrev pub geometries : {A : Type 0} → (A → Geometry) → List A → Geometries
geometries f [] = none
geometries f (a ∷ l) = f a then geometries f l

-- A Polygon where a member has one polygon, else a MultiPolygon.
abbrev pub member_tree : Member → Geometry
member_tree [] = holding true MultiPolygon none
member_tree (p ∷ []) = part_of p
member_tree (p ∷ q ∷ m) = holding true MultiPolygon (geometries part_of (p ∷ q ∷ m))

unfoldable pub normal : Sheet → Geometry
normal n = holding true Collection (holding true Tin (geometries piece_of n.table) then geometries member_tree n.polygons)

-- The bytes that the writer writes.
abbrev pub written : Sheet → List ℕ
written n = encode (normal n)
