-- The normal tree of a sheet within the limits is within the limits, and unfolds to the sheet. The idea: each number in range is read back
-- from its pattern, so each list is read back from its image, level by level, with every count as it was. Assumes nothing.
use mathlib.Core.Path.{◌≡◌, refl, sym, ◌∙◌, ap}
use mathlib.Core.Bool.{Bool, ◌&&◌}
use mathlib.Core.Logic.{inl}
use mathlib.Core.List.{List, [], ◌∷◌, map}
use Prim.Native.Nat.{ℕ, zero, suc, ◌+◌, ◌-◌, ◌≤◌, ◌<◌}
use native.Mathlib.Omega.{arith}
use lib.Dec.{T, leb, leb→le}
use lib.IntN.{ℤ, nat_abs}
use lib.ListN.{length, get_or, length-map, get_or-map}
use Rattle.whole.specs.Numbers.{Within}
use Rattle.whole.specs.Sums.{All, every}
use Rattle.whole.proofs.Sums.{and_left, and_right, every_all, all_image}
use Rattle.plane.specs.Points.{Point, Triangle}
use Rattle.plane.specs.Members.{Ring, Polygon, Member}
use Rattle.plane.proofs.Points.{same_point-eq}
use Rattle.sheet_coordinate.specs.Coordinate.{held_of}
use Rattle.sheet_coordinate.proofs.Meaning.{millimetres_held}
use Rattle.wkb.specs.Standard.{Pair, Geometry, count}
use Rattle.sheet_form.specs.Numbers.{Sheet}
use Rattle.sheet_standard.specs.Limits.{whole_of, number_of, point_of, ring_of, member_of, members_of, triangle_of, each, sheet_of, all_lengths, FromTo, IsCoordinate, RingFits, PolygonFits, PieceFits, PartFits, Each, MemberFits, SheetFits}
use Rattle.sheet_written.specs.Fits.{from_to, in_range, point_fits, triangle_fits, origin, closed, ring_fits, part_fits, member_fits, sheet_fits}
use Rattle.sheet_written.specs.Normal.{pattern_of, pair_of, piece_of, part_of, geometries, member_tree, normal}
use Rattle.sheet_written.proofs.Patterns.{pattern_eight, pattern_is}

-- ---- tests
both : (a b : Bool) → T (a && b) → T a × T b
both a b t = (and_left a b t, and_right a b t)

three : (a b c : Bool) → T (a && b && c) → T a × T b × T c
three a b c t = let l = both (a && b) c t in let k = both a b l.0 in (k.0, k.1, l.1)

pub from_to_lem : (low high n : ℕ) → T (from_to low high n) → FromTo low high n
from_to_lem low high n t = let k = both (leb low n) (leb n high) t in (leb→le low n k.0, leb→le n high k.1)

-- ---- lists
-- What reads each thing back from its image reads the list back.
module _ {A B : Type 0} (f : A → B) (g : B → A) where
  map_back : (l : List A) → All (λ a. g (f a) ≡ a) l → map g (map f l) ≡ l
  map_back [] h = refl
  map_back (a ∷ l) h = let r = map_back l h.1 in λ i. h.0 i ∷ r i

module _ {A : Type 0} (f : A → Geometry) where
  each_back : (g : Geometry → A) (l : List A) → All (λ a. g (f a) ≡ a) l → each g (geometries f l) ≡ l
  each_back g [] h = refl
  each_back g (a ∷ l) h = let r = each_back g l h.1 in λ i. h.0 i ∷ r i

  each_fits : (P : Geometry → Type 0) (l : List A) → All (λ a. P (f a)) l → Each P (geometries f l)
  each_fits P [] h = tt
  each_fits P (a ∷ l) h = (h.0, each_fits P l h.1)

  count_is : (l : List A) → count (geometries f l) ≡ length l
  count_is [] = refl
  count_is (a ∷ l) = ap suc (count_is l)

-- Within a list no default is met.
default : {A : Type 0} (l : List A) (k : ℕ) (d e : A) → k < length l → get_or l k d ≡ get_or l k e
default [] k d e h = absurd (omega arith)
default (a ∷ l) zero d e h = refl
default (a ∷ l) (suc k) d e h = default l k d e (omega arith)

-- ---- points
within : (z : ℤ) → T (in_range z) → Within 10_000_000 z
within z t = record { size = leb→le (nat_abs z) 10_000_000 t }

number_fits : (z : ℤ) → T (in_range z) → IsCoordinate (pattern_of z)
number_fits z t = record { eight = pattern_eight z; h = held_of z; is = pattern_is z (within z t) }

number_back : (z : ℤ) → T (in_range z) → number_of (pattern_of z) ≡ z
unfolding number_of
number_back z t = ap whole_of (pattern_is z (within z t)) ∙ millimetres_held z (within z t)

abbrev PointFits : Pair → Type 0
PointFits p = IsCoordinate p.x × IsCoordinate p.y

point_fits_lem : (p : Point) → T (point_fits p) → PointFits (pair_of p)
point_fits_lem p t = let k = both (in_range p.x) (in_range p.y) t in (number_fits p.x k.0, number_fits p.y k.1)

point_back : (p : Point) → T (point_fits p) → point_of (pair_of p) ≡ p
point_back p t =
    let k = both (in_range p.x) (in_range p.y) t in
    let x = number_back p.x k.0 in
    let y = number_back p.y k.1 in
    λ i. record { x = x i; y = y i }

-- ---- rings
module _ (r : Ring) (t : T (ring_fits r)) where
  pub ring_tests : T (from_to 4 4096 (length r)) × T (every point_fits r) × T (closed r)
  ring_tests = three (from_to 4 4096 (length r)) (every point_fits r) (closed r) t

  ring_back : ring_of (map pair_of r) ≡ r
  ring_back = map_back pair_of point_of r (every_all point_fits (λ p. point_of (pair_of p) ≡ p) point_back r ring_tests.1)

  -- A point of the ring of patterns.
  at_back : (k : ℕ) → k < length r → point_of (get_or (map pair_of r) k (record { x = 0; y = 0 })) ≡ get_or r k origin
  at_back k h =
      sym (get_or-map point_of (map pair_of r) k (record { x = 0; y = 0 }))
      ∙ ap (λ (l : Ring). get_or l k (point_of (record { x = 0; y = 0 }))) ring_back
      ∙ default r k (point_of (record { x = 0; y = 0 })) origin h

  ring_fits_lem : RingFits 4 4096 (map pair_of r)
  ring_fits_lem =
      let n = from_to_lem 4 4096 (length r) ring_tests.0 in
      let m = length-map r pair_of in
      let l : length r - 1 < length r = omega arith in
      let k : 0 < length r = omega arith in
      let e = same_point-eq (get_or r (length r - 1) origin) (get_or r 0 origin) ring_tests.2 in
      record {
        number = rw m n;
        points = all_image pair_of PointFits r (every_all point_fits (λ p. PointFits (pair_of p)) point_fits_lem r ring_tests.1);
        closed = rw m (at_back (length r - 1) l ∙ e ∙ sym (at_back 0 k));
      }

-- ---- polygons
module _ (p : Polygon) (t : T (part_fits p)) where
  pub part_tests : T (from_to 1 64 (length p)) × T (every ring_fits p)
  part_tests = both (from_to 1 64 (length p)) (every ring_fits p) t

  part_back : map ring_of (map (map pair_of) p) ≡ p
  part_back = map_back (map pair_of) ring_of p (every_all ring_fits (λ r. ring_of (map pair_of r) ≡ r) ring_back p part_tests.1)

  part_fits_lem : PolygonFits (map (map pair_of) p)
  part_fits_lem = (
    rw (length-map p (map pair_of)) (from_to_lem 1 64 (length p) part_tests.0),
    all_image (map pair_of) (RingFits 4 4096) p (every_all ring_fits (λ r. RingFits 4 4096 (map pair_of r)) ring_fits_lem p part_tests.1),
  )

-- ---- members
parts_back : (m : Member) → All (λ p. map ring_of (map (map pair_of) p) ≡ p) m → members_of (geometries part_of m) ≡ m
unfolding member_of members_of
parts_back [] h = refl
parts_back (p ∷ m) h = let r = parts_back m h.1 in λ i. h.0 i ∷ r i

module _ (m : Member) (t : T (member_fits m)) where
  pub member_tests : T (from_to 1 64 (length m)) × T (every part_fits m)
  member_tests = both (from_to 1 64 (length m)) (every part_fits m) t

  member_number : FromTo 1 64 (length m)
  member_number = from_to_lem 1 64 (length m) member_tests.0

member_back : (m : Member) → T (member_fits m) → member_of (member_tree m) ≡ m
unfolding member_of members_of
member_back m t = go m (every_all part_fits (λ p. map ring_of (map (map pair_of) p) ≡ p) part_back m (member_tests m t).1)
  where
    go : (m : Member) → All (λ p. map ring_of (map (map pair_of) p) ≡ p) m → member_of (member_tree m) ≡ m
    go [] h = refl
    go (p ∷ []) h = λ i. h.0 i ∷ []
    go (p ∷ q ∷ m) h = parts_back (p ∷ q ∷ m) h

member_fits_lem : (m : Member) → T (member_fits m) → MemberFits (member_tree m) 3
unfolding MemberFits
member_fits_lem m t =
    let parts = every_all part_fits (λ p. PartFits (part_of p)) (λ p u. (refl, part_fits_lem p u)) m (member_tests m t).1 in
    go m (member_number m t) parts
  where
    go : (m : Member) → FromTo 1 64 (length m) → All (λ p. PartFits (part_of p)) m → MemberFits (member_tree m) 3
    go [] n h = absurd (omega (arith, n.0))
    go (p ∷ []) n h = h.0
    go (p ∷ q ∷ m) n h = (rw (count_is part_of (p ∷ q ∷ m)) n, inl (refl, each_fits part_of PartFits (p ∷ q ∷ m) h))

-- ---- the table
module _ (t : Triangle) (u : T (triangle_fits t)) where
  triangle_tests : T (point_fits t.a) × T (point_fits t.b) × T (point_fits t.c)
  triangle_tests = three (point_fits t.a) (point_fits t.b) (point_fits t.c) u

  triangle_back : triangle_of (piece_of t) ≡ t
  unfolding triangle_of
  triangle_back =
      let a = point_back t.a triangle_tests.0 in
      let b = point_back t.b triangle_tests.1 in
      let c = point_back t.c triangle_tests.2 in
      λ i. record { a = a i; b = b i; c = c i }

  piece_fits : PieceFits (piece_of t)
  piece_fits =
      let a = point_fits_lem t.a triangle_tests.0 in
      let b = point_fits_lem t.b triangle_tests.1 in
      let c = point_fits_lem t.c triangle_tests.2 in
      (inl refl, refl, (record { number = (omega arith, omega arith); points = (a, (b, (c, (a, tt)))); closed = refl }, tt))

-- ---- the sheet
-- What its test says, one by one.
pub record Tests (limit : ℕ) (n : Sheet) : Type 0 where
  pub table : T (from_to 2 1024 (length n.table))
  pub pieces : T (every triangle_fits n.table)
  pub number : T (leb (length n.polygons + 1) limit)
  pub members : T (every member_fits n.polygons)
  pub points : T (leb (all_lengths n.polygons) 4096)

pub tests : (limit : ℕ) (n : Sheet) → T (sheet_fits limit n) → Tests limit n
unfolding sheet_fits
tests limit n h =
    let table = from_to 2 1024 (length n.table) in
    let pieces = every triangle_fits n.table in
    let number = leb (length n.polygons + 1) limit in
    let l = three (table && pieces && number) (every member_fits n.polygons) (leb (all_lengths n.polygons) 4096) h in
    let k = three table pieces number l.0 in
    record { table = k.0; pieces = k.1; number = k.2; members = l.1; points = l.2 }

table_back : {limit : ℕ} (n : Sheet) → Tests limit n → each triangle_of (geometries piece_of n.table) ≡ n.table
table_back n h =
    let back = every_all triangle_fits (λ t. triangle_of (piece_of t) ≡ t) triangle_back n.table h.pieces in
    each_back piece_of triangle_of n.table back

members_back : {limit : ℕ} (n : Sheet) → Tests limit n → each member_of (geometries member_tree n.polygons) ≡ n.polygons
members_back n h =
    let back = every_all member_fits (λ m. member_of (member_tree m) ≡ m) member_back n.polygons h.members in
    each_back member_tree member_of n.polygons back

-- What the limits ask of a member.
abbrev Limited : Geometry → Type 0
Limited g = MemberFits g 3 × (length (member_of g) ≤ 64)

limited : (m : Member) → T (member_fits m) → Limited (member_tree m)
limited m t = (member_fits_lem m t, rw (member_back m t) (member_number m t).1)

pub normal_fits : (limit : ℕ) (n : Sheet) → T (sheet_fits limit n) → SheetFits limit (normal n)
unfolding SheetFits normal
normal_fits limit n h =
    let k = tests limit n h in
    let table = from_to_lem 2 1024 (length n.table) k.table in
    let pieces = every_all triangle_fits (λ t. PieceFits (piece_of t)) piece_fits n.table k.pieces in
    let members = every_all member_fits (λ m. Limited (member_tree m)) limited n.polygons k.members in (
      refl,
      rw (count_is member_tree n.polygons) (omega (arith, leb→le (length n.polygons + 1) limit k.number)),
      (refl, rw (count_is piece_of n.table) table, each_fits piece_of PieceFits n.table pieces),
      each_fits member_tree Limited n.polygons members,
      rw (members_back n k) (leb→le (all_lengths n.polygons) 4096 k.points),
    )

pub normal_sheet : (limit : ℕ) (n : Sheet) → T (sheet_fits limit n) → sheet_of (normal n) ≡ n
unfolding sheet_of normal
normal_sheet limit n h =
    let t = table_back n (tests limit n h) in
    let m = members_back n (tests limit n h) in
    λ i. record { table = t i; polygons = m i }
