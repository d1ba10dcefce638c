-- How many bytes the standard's encoding of a tree has: 9 for each geometry, 4 for each ring, 16 for each point. The idea: the polygons of a tree
-- are those of the member that it unfolds to, so that only the geometries that hold others are counted on the tree. Assumes nothing.
use mathlib.Core.Path.{◌≡◌}
use mathlib.Core.Bool.{Bool}
use mathlib.Core.List.{List, [], ◌∷◌, ◌++◌, map, flat_map}
use Prim.Native.Nat.{ℕ, suc, ◌+◌, ◌*◌}
use native.Mathlib.Omega.{arith}
use lib.ListN.{length, length-map, length-append}
use Rattle.plane.specs.Members.{Member}
use Rattle.wkb_kinds.specs.declared.Kind.{Kind}
use Rattle.wkb_kinds.specs.Kinds.{type_of}
use Rattle.lent_little.specs.Ordered.{bytes_of}
use Rattle.lent_little.proofs.Ordered.{length-bytes_of}
use Rattle.wkb.specs.Standard.{Pair, Geometry, ringed, holding, Geometries, none, ◌then◌, count, header, encode_point, encode_ring, encode, encode_all}
use Rattle.sheet_standard.specs.Limits.{point_of, ring_of, member_of, members_of, triangle_of, each, sheet_of, PieceFits, Each, ring_lengths, lengths, SheetFits}

-- ---- what is counted
-- The geometries of a tree that hold others.
unfoldable mutual
  pub holders : Geometry → ℕ
  holders (ringed little kind rs) = 0
  holders (holding little kind gs) = suc (holders_in gs)

  pub holders_in : Geometries → ℕ
  holders_in none = 0
  holders_in (g then gs) = holders g + holders_in gs

-- The rings of a member, and the bytes of its polygons.
abbrev pub rings : Member → ℕ
rings [] = 0
rings (p ∷ m) = length p + rings m

abbrev pub polygon_bytes : Member → ℕ
polygon_bytes m = 9 * length m + 4 * rings m + 16 * lengths m

abbrev pub all_bytes : List Member → ℕ
all_bytes [] = 0
all_bytes (m ∷ l) = polygon_bytes m + all_bytes l

-- The bytes of two lists of polygons are those of both.
rings-++ : (a b : Member) → rings (a ++ b) ≡ rings a + rings b
rings-++ [] b = omega arith
rings-++ (p ∷ a) b = omega (arith, rings-++ a b)

lengths-++ : (a b : Member) → lengths (a ++ b) ≡ lengths a + lengths b
lengths-++ [] b = omega arith
lengths-++ (p ∷ a) b = omega (arith, lengths-++ a b)

bytes-++ : (a b : Member) → polygon_bytes (a ++ b) ≡ polygon_bytes a + polygon_bytes b
bytes-++ a b = omega (arith, length-append a b, rings-++ a b, lengths-++ a b)

-- ---- the standard's parts
header_nine : (little : Bool) (kind : Kind) (n : ℕ) → length (header little kind n) ≡ 9
unfolding header
header_nine little kind n =
    omega (arith, length-append (bytes_of little 4 (type_of kind)) (bytes_of little 4 n), length-bytes_of little 4 (type_of kind), length-bytes_of little 4 n)

point_sixteen : (little : Bool) (p : Pair) → length (encode_point little p) ≡ 16
unfolding encode_point
point_sixteen little p =
    omega (arith, length-append (bytes_of little 8 p.x) (bytes_of little 8 p.y), length-bytes_of little 8 p.x, length-bytes_of little 8 p.y)

points_length : (little : Bool) (r : List Pair) → length (flat_map (encode_point little) r) ≡ 16 * length r
unfolding flat_map
points_length little [] = omega arith
points_length little (p ∷ r) = omega (arith, length-append (encode_point little p) (flat_map (encode_point little) r), point_sixteen little p, points_length little r)

rings_length : (little : Bool) (rs : List (List Pair)) → length (flat_map (encode_ring little) rs) ≡ 4 * length rs + 16 * ring_lengths (map ring_of rs)
unfolding flat_map encode_ring
rings_length little [] = omega arith
rings_length little (r ∷ rs) =
    omega (
      arith,
      length-append (encode_ring little r) (flat_map (encode_ring little) rs),
      length-append (bytes_of little 4 (length r)) (flat_map (encode_point little) r),
      length-bytes_of little 4 (length r),
      points_length little r,
      length-map r point_of,
      rings_length little rs,
    )

-- ---- trees
mutual
  unfolding encode encode_all holders holders_in member_of members_of

  pub encode_length : (g : Geometry) → length (encode g) ≡ 9 * holders g + polygon_bytes (member_of g)
  encode_length (ringed little kind rs) =
      omega (arith, length-append (header little kind (length rs)) (flat_map (encode_ring little) rs), header_nine little kind (length rs), rings_length little rs, length-map rs ring_of)
  encode_length (holding little kind gs) =
      omega (arith, length-append (header little kind (count gs)) (encode_all gs), header_nine little kind (count gs), all_length gs)

  all_length : (gs : Geometries) → length (encode_all gs) ≡ 9 * holders_in gs + polygon_bytes (members_of gs)
  all_length none = omega arith
  all_length (g then gs) = omega (arith, length-append (encode g) (encode_all gs), encode_length g, all_length gs, bytes-++ (member_of g) (members_of gs))

-- The members of a sheet, one by one.
members_length : (gs : Geometries) → length (encode_all gs) ≡ 9 * holders_in gs + all_bytes (each member_of gs)
unfolding encode_all holders_in
members_length none = omega arith
members_length (g then gs) = omega (arith, length-append (encode g) (encode_all gs), encode_length g, members_length gs)

-- The pieces of a table.
piece_length : (g : Geometry) → PieceFits g → length (encode g) ≡ 77
unfolding holders member_of
piece_length (ringed little kind []) h = absurd (omega (arith, h.1))
piece_length (ringed little kind (r ∷ [])) h = omega (arith, encode_length (ringed little kind (r ∷ [])), length-map r point_of, h.2.0.number.0, h.2.0.number.1)
piece_length (ringed little kind (r ∷ q ∷ rs)) h = absurd (omega (arith, h.1))
piece_length (holding little kind gs) h = absurd h

pieces_length : (gs : Geometries) → Each PieceFits gs → length (encode_all gs) ≡ 77 * length (each triangle_of gs)
unfolding encode_all
pieces_length none h = omega arith
pieces_length (g then gs) h = omega (arith, length-append (encode g) (encode_all gs), piece_length g h.0, pieces_length gs h.1)

-- The geometries under a sheet's members that hold others.
abbrev pub holders_under : Geometry → ℕ
holders_under (ringed little kind rs) = 0
holders_under (holding little kind none) = 0
holders_under (holding little kind (t then ms)) = holders_in ms

-- A sheet within the limits.
pub sheet_length : (limit : ℕ) (g : Geometry) → SheetFits limit g → length (encode g) ≡ 18 + 77 * length (sheet_of g).table + 9 * holders_under g + all_bytes (sheet_of g).polygons
unfolding encode encode_all sheet_of SheetFits
sheet_length limit (ringed little kind rs) h = absurd h
sheet_length limit (holding little kind none) h = absurd h
sheet_length limit (holding little kind (ringed order shape rs then ms)) h = absurd h.2
sheet_length limit (holding little kind (holding order shape gs then ms)) h =
    omega (
      arith,
      length-append (header little kind (count (holding order shape gs then ms))) (encode_all (holding order shape gs then ms)),
      header_nine little kind (count (holding order shape gs then ms)),
      length-append (encode (holding order shape gs)) (encode_all ms),
      length-append (header order shape (count gs)) (encode_all gs),
      header_nine order shape (count gs),
      pieces_length gs h.2.2,
      members_length ms,
    )
