-- The normal bytes of a sheet within the limits are at most 157,705 and 9 for each member that it may have, and a tree within the limits is
-- encoded in at most 185,353 and 9 for each.
-- The idea: a ring has 4 points at least and a polygon a ring, so for every 4 points the polygons have at most 77 bytes, and there is at most one of
-- them; whatever holds geometries holds a polygon, and under a member at most three hold one polygon, besides the member itself. Assumes nothing.
use mathlib.Core.Path.{◌≡◌, refl, ◌∙◌, ap}
use mathlib.Core.Logic.{inl, inr}
use mathlib.Core.List.{List, [], ◌∷◌}
use Prim.Native.Nat.{ℕ, zero, suc, ◌+◌, ◌*◌, ◌≤◌}
use native.Mathlib.Nat.{mul-add, suc-mul}
use native.Mathlib.Omega.{arith}
use lib.Dec.{T, leb→le}
use lib.ListN.{length, length-append}
use Rattle.whole.specs.Sums.{All}
use Rattle.whole.proofs.Sums.{every_all}
use Rattle.plane.specs.Members.{Polygon, Member}
use Rattle.wkb.specs.Standard.{Geometry, ringed, holding, Geometries, none, ◌then◌, count, encode}
use Rattle.sheet_form.specs.Numbers.{Sheet}
use Rattle.sheet_standard.specs.Limits.{member_of, members_of, each, sheet_of, PartFits, Each, MemberFits, MembersFit, ring_lengths, lengths, all_lengths, SheetFits}
use Rattle.sheet_written.specs.Fits.{ring_fits, part_fits, member_fits, sheet_fits}
use Rattle.sheet_written.specs.Normal.{part_of, geometries, member_tree, normal, written}
use Rattle.sheet_written.proofs.Normal.{from_to_lem, ring_tests, part_tests, member_tests, tests, normal_fits, normal_sheet}
use Rattle.sheet_written.proofs.Measured.{holders, holders_in, holders_under, rings, all_bytes, sheet_length}
use Rattle.sheet_written.proofs.Read.{read_fits}

-- ---- points
-- A ring has 4 points at least.
rings_points : (p : Polygon) → All (λ r. 4 ≤ length r) p → 4 * length p ≤ ring_lengths p
rings_points [] h = omega arith
rings_points (r ∷ p) h = omega (arith, h.0, rings_points p h.1)

part_points : (p : Polygon) → T (part_fits p) → (1 ≤ length p) × (4 * length p ≤ ring_lengths p)
part_points p t = ((from_to_lem 1 64 (length p) (part_tests p t).0).0, rings_points p (every_all ring_fits (λ r. 4 ≤ length r) (λ r u. (from_to_lem 4 4096 (length r) (ring_tests r u).0).0) p (part_tests p t).1))

member_points : (m : Member) → T (member_fits m) → (length m ≤ rings m) × (4 * rings m ≤ lengths m)
member_points m t = go m (every_all part_fits (λ p. (1 ≤ length p) × (4 * length p ≤ ring_lengths p)) part_points m (member_tests m t).1)
  where
    go : (m : Member) → All (λ p. (1 ≤ length p) × (4 * length p ≤ ring_lengths p)) m → (length m ≤ rings m) × (4 * rings m ≤ lengths m)
    go [] h = (omega arith, omega arith)
    go (p ∷ m) h = let r = go m h.1 in (omega (arith, h.0.0, r.0), omega (arith, h.0.1, r.1))

polygons_most : (l : List Member) → All (λ m. T (member_fits m)) l → 4 * all_bytes l ≤ 77 * all_lengths l
polygons_most [] h = omega arith
polygons_most (m ∷ l) h = let p = member_points m h.0 in omega (arith, p.0, p.1, polygons_most l h.1)

-- ---- geometries that hold others
parts_hold : (gs : Geometries) → Each PartFits gs → (count gs ≤ length (members_of gs)) × (holders_in gs ≡ 0)
unfolding holders holders_in member_of members_of
parts_hold none h = (omega arith, refl)
parts_hold (ringed little kind rs then gs) h = let r = parts_hold gs h.1 in (omega (arith, r.0), omega (arith, r.1))
parts_hold (holding little kind hs then gs) h = absurd h.0

mutual
  unfolding holders holders_in member_of members_of MemberFits MembersFit

  member_holds : (g : Geometry) (deep : ℕ) → MemberFits g deep → (1 ≤ length (member_of g)) × (holders g ≤ 1 + deep * length (member_of g))
  member_holds (ringed little kind rs) deep h = (omega arith, omega arith)
  member_holds (holding little kind gs) deep (n, inl h) = let r = parts_hold gs h.1 in (omega (arith, n.0, r.0), omega (arith, r.1))
  member_holds (holding little kind gs) deep (n, inr h) = let r = members_hold gs deep h.1 in (omega (arith, n.0, r.0), omega (arith, r.1))

  members_hold : (gs : Geometries) (deep : ℕ) → MembersFit gs deep → (count gs ≤ length (members_of gs)) × (holders_in gs ≤ deep * length (members_of gs))
  members_hold none zero h = absurd h
  members_hold none (suc deep) h = (omega arith, omega arith)
  members_hold (g then gs) zero h = absurd h
  members_hold (g then gs) (suc deep) h =
      let a = member_holds g deep h.0 in
      let b = members_hold gs (suc deep) h.1 in
      let n = length-append (member_of g) (members_of gs) in
      (omega (arith, a.0, b.0), omega (arith, a.0, a.1, b.1, suc-mul deep (length (member_of g)), ap (λ k. suc deep * k) n, mul-add (suc deep) (length (member_of g)) (length (members_of gs))))

-- Under each member of a sheet at most one, and three for each polygon.
all_hold : (ms : Geometries) → Each (λ g. MemberFits g 3 × (length (member_of g) ≤ 64)) ms → All (λ m. T (member_fits m)) (each member_of ms)
    → 4 * holders_in ms ≤ 4 * count ms + 3 * all_lengths (each member_of ms)
unfolding holders_in
all_hold none h t = omega arith
all_hold (g then ms) h t =
    let p = member_points (member_of g) t.0 in
    omega (arith, (member_holds g 3 h.0.0).1, p.0, p.1, all_hold ms h.1 t.1)

-- ---- what is read
-- The limits of a sheet, for its bytes.
record Few (limit : ℕ) (n : Sheet) : Type 0 where
  triangles : length n.table ≤ 1024
  polygons : length n.polygons + 1 ≤ limit
  points : all_lengths n.polygons ≤ 4096
  members : All (λ m. T (member_fits m)) n.polygons
  bytes : all_bytes n.polygons ≤ 78848

few : (limit : ℕ) (n : Sheet) → T (sheet_fits limit n) → Few limit n
few limit n h =
    let k = tests limit n h in
    let m = every_all member_fits (λ m. T (member_fits m)) (λ m t. t) n.polygons k.members in
    let p = leb→le (all_lengths n.polygons) 4096 k.points in
    record {
      triangles = (from_to_lem 2 1024 (length n.table) k.table).1;
      polygons = leb→le (length n.polygons + 1) limit k.number;
      points = p;
      members = m;
      bytes = omega (arith, polygons_most n.polygons m);
    }

pub read_small : (limit : ℕ) (g : Geometry) → SheetFits limit g → length (encode g) ≤ 185353 + 9 * limit
unfolding sheet_of SheetFits
read_small limit g h = let f = few limit (sheet_of g) (read_fits limit g h) in omega (arith, sheet_length limit g h, f.triangles, f.bytes, go g h f)
  where
    go : (g : Geometry) → SheetFits limit g → Few limit (sheet_of g) → holders_under g + 1 ≤ 3072 + limit
    go (ringed little kind rs) h f = absurd h
    go (holding little kind none) h f = absurd h
    go (holding little kind (t then ms)) h f = omega (arith, all_hold ms h.3 f.members, h.1, f.points)

-- ---- what is written
parts_none : (m : Member) → holders_in (geometries part_of m) ≡ 0
unfolding holders holders_in
parts_none [] = refl
parts_none (p ∷ m) = omega (arith, parts_none m)

members_one : (l : List Member) → holders_in (geometries member_tree l) ≤ length l
unfolding holders holders_in
members_one [] = omega arith
members_one ([] ∷ l) = omega (arith, members_one l)
members_one ((p ∷ []) ∷ l) = omega (arith, members_one l)
members_one ((p ∷ q ∷ m) ∷ l) = omega (arith, parts_none m, members_one l)

pub written_length : (limit : ℕ) (n : Sheet) → T (sheet_fits limit n) → length (written n) ≡ 18 + 77 * length n.table + 9 * holders_under (normal n) + all_bytes n.polygons
written_length limit n h =
    sheet_length limit (normal n) (normal_fits limit n h) ∙ ap (λ (m : Sheet). 18 + 77 * length m.table + 9 * holders_under (normal n) + all_bytes m.polygons) (normal_sheet limit n h)

pub written_small : (limit : ℕ) (n : Sheet) → T (sheet_fits limit n) → length (written n) ≤ 157705 + 9 * limit
unfolding normal
written_small limit n h = let f = few limit n h in omega (arith, written_length limit n h, f.triangles, f.bytes, f.polygons, under)
  where
    under : holders_under (normal n) ≤ length n.polygons
    under = members_one n.polygons
