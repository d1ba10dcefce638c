-- The binary form of OGC 06-103r4 by itself: a tree of geometries, each with its byte order, each coordinate with its 8-byte pattern, and
-- the bytes that encode it.
use Rattle.std.specs.Prelude.{Bool, true, false, ℕ, suc, length}
use mathlib.Core.List.{List, [], ◌∷◌, ◌++◌, flat_map}
use Rattle.wkb_kinds.specs.declared.Kind.{Kind}
use Rattle.lent_little.specs.Ordered.{bytes_of}
use Rattle.wkb_kinds.specs.Kinds.{type_of}

infixr 5 ◌then◌
-- A point: the patterns of its two doubles.
pub record Pair : Type 0 where
  pub x : ℕ
  pub y : ℕ

-- A geometry has a byte order and a kind; a Polygon or a Triangle has rings, each a list of points, and any other has geometries.
mutual
  pub data Geometry : Type 0 where
    ringed : (little : Bool) (kind : Kind) → List (List Pair) → Geometry
    holding : (little : Bool) (kind : Kind) → Geometries → Geometry

  pub data Geometries : Type 0 where
    none : Geometries
    ◌then◌ : Geometry → Geometries → Geometries

-- How many geometries there are.
abbrev pub count : Geometries → ℕ
count none = 0
count (g then gs) = suc (count gs)

-- Every geometry begins with a byte order (0 big-endian, 1 little-endian), then a u32 type, then a u32 count.
abbrev pub order : Bool → ℕ
order true = 1
order false = 0

unfoldable pub header : Bool → Kind → ℕ → List ℕ
header little kind n = order little ∷ bytes_of little 4 (type_of kind) ++ bytes_of little 4 n

-- A point is two doubles, x then y; a ring is a u32 point count and that many points, without a byte order of its own.
unfoldable pub encode_point : Bool → Pair → List ℕ
encode_point little p = bytes_of little 8 p.x ++ bytes_of little 8 p.y

unfoldable pub encode_ring : Bool → List Pair → List ℕ
encode_ring little r = bytes_of little 4 (length r) ++ flat_map (encode_point little) r

-- The bytes of a geometry: its header, counting what it has, and then that.
unfoldable mutual
  pub encode : Geometry → List ℕ
  encode (ringed little kind rs) = header little kind (length rs) ++ flat_map (encode_ring little) rs
  encode (holding little kind gs) = header little kind (count gs) ++ encode_all gs

  pub encode_all : Geometries → List ℕ
  encode_all none = []
  encode_all (g then gs) = encode g ++ encode_all gs
