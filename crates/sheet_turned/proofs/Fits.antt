-- A sheet within the limits has its rings within the limits, and with its rings turned it is within the limits.
-- The idea: a ring in reverse order has the same points, as many, and is closed; so each test of the limits passes from the sheet to the turned one, level by
-- level. Assumes nothing.
use mathlib.Core.Path.{◌≡◌, refl, sym, subst}
use mathlib.Core.Bool.{Bool, ◌&&◌}
use mathlib.Core.List.{List, [], ◌∷◌, map, reverse}
use Prim.Native.Nat.{ℕ, ◌+◌, ◌-◌}
use native.Mathlib.Omega.{arith}
use lib.Dec.{T, leb, leb→le}
use lib.ListN.{length, get_or, length-reverse, length-map}
use Rattle.whole.specs.Sums.{All, every}
use Rattle.whole.proofs.Sums.{and_left, and_right, and_both, every_all, all_every, all_map, all_image}
use Rattle.plane.specs.Members.{Ring, Polygon, Member}
use Rattle.plane.proofs.Points.{same_point-eq, same_point-refl}
use Rattle.plane_rings.specs.Closed.{RingLimits}
use Rattle.plane_rings.specs.Turning.{inward, turn_polygon, turn_member}
use Rattle.plane_rings.proofs.Reverse.{all_reverse, first_reverse, last_reverse}
use Rattle.plane_rings.proofs.Turning.{outward_length, inward_length, polygon_length, rings_keep}
use Rattle.sheet_form.specs.Numbers.{Sheet}
use Rattle.sheet_standard.specs.Limits.{ring_lengths, lengths, all_lengths}
use Rattle.sheet_written.specs.Fits.{from_to, point_fits, triangle_fits, origin, closed, ring_fits, part_fits, member_fits, sheet_fits}
use Rattle.sheet_turned.specs.Rings.{RingsFit}

-- ---- what the tests say
-- A test passed by each.
module _ {A : Type 0} (p : A → Bool) where
  passed : (l : List A) → T (every p l) → All (λ a. T (p a)) l
  passed l h = every_all p (λ a. T (p a)) (λ a t. t) l h

  pass : (l : List A) → All (λ a. T (p a)) l → T (every p l)
  pass l h = all_every p (λ a. T (p a)) (λ a t. t) l h

-- A count within its limits, and one that is the same.
from_same : (low high m n : ℕ) → m ≡ n → T (from_to low high n) → T (from_to low high m)
from_same low high m n e h = subst (λ k. T (from_to low high k)) (sym e) h

module _ (r : Ring) (h : T (ring_fits r)) where
  number : T (from_to 4 4096 (length r))
  number = and_left (from_to 4 4096 (length r)) (every point_fits r) (and_left (from_to 4 4096 (length r) && every point_fits r) (closed r) h)

  points : T (every point_fits r)
  points = and_right (from_to 4 4096 (length r)) (every point_fits r) (and_left (from_to 4 4096 (length r) && every point_fits r) (closed r) h)

  closes : T (closed r)
  closes = and_right (from_to 4 4096 (length r) && every point_fits r) (closed r) h

  ring_limits : RingLimits r
  ring_limits =
      record {
        low = leb→le 4 (length r) (and_left (leb 4 (length r)) (leb (length r) 4096) number);
        high = leb→le (length r) 4096 (and_right (leb 4 (length r)) (leb (length r) 4096) number);
        closed = same_point-eq (get_or r (length r - 1) origin) (get_or r 0 origin) closes;
      }

  -- A ring in reverse order passes too.
  closes_back : T (closed (reverse r))
  closes_back = rw (last_reverse r origin, first_reverse r origin, ring_limits.closed) (same_point-refl (get_or r 0 origin))

  ring_back : T (ring_fits (reverse r))
  ring_back =
      and_both (from_to 4 4096 (length (reverse r)) && every point_fits (reverse r)) (closed (reverse r))
      (and_both (from_to 4 4096 (length (reverse r))) (every point_fits (reverse r)) (from_same 4 4096 (length (reverse r)) (length r) (length-reverse r) number)
      (pass point_fits (reverse r) (all_reverse (λ p. T (point_fits p)) r (passed point_fits r points))))
      closes_back

module _ (p : Polygon) (h : T (part_fits p)) where
  rings : All (λ r. T (ring_fits r)) p
  rings = passed ring_fits p (and_right (from_to 1 64 (length p)) (every ring_fits p) h)

  part_limits : All RingLimits p
  part_limits = all_map (λ r. T (ring_fits r)) RingLimits ring_limits p rings

  part_turned : T (part_fits (turn_polygon p))
  part_turned =
      and_both (from_to 1 64 (length (turn_polygon p))) (every ring_fits (turn_polygon p))
      (from_same 1 64 (length (turn_polygon p)) (length p) (polygon_length p) (and_left (from_to 1 64 (length p)) (every ring_fits p) h))
      (pass ring_fits (turn_polygon p) (rings_keep (λ r. T (ring_fits r)) ring_back p rings))

module _ (m : Member) (h : T (member_fits m)) where
  parts : All (λ p. T (part_fits p)) m
  parts = passed part_fits m (and_right (from_to 1 64 (length m)) (every part_fits m) h)

  member_limits : All (All RingLimits) m
  member_limits = all_map (λ p. T (part_fits p)) (All RingLimits) part_limits m parts

  member_turned : T (member_fits (turn_member m))
  member_turned =
      and_both (from_to 1 64 (length (turn_member m))) (every part_fits (turn_member m))
      (from_same 1 64 (length (turn_member m)) (length m) (length-map m turn_polygon) (and_left (from_to 1 64 (length m)) (every part_fits m) h))
      (pass part_fits (turn_member m) (all_image turn_polygon (λ p. T (part_fits p)) m (all_map (λ p. T (part_fits p)) (λ p. T (part_fits (turn_polygon p))) part_turned m parts)))

-- ---- as many points
later_lengths : (rs : List Ring) → ring_lengths (map inward rs) ≡ ring_lengths rs
later_lengths [] = refl
later_lengths (r ∷ rs) = omega (arith, inward_length r, later_lengths rs)

part_lengths : (p : Polygon) → ring_lengths (turn_polygon p) ≡ ring_lengths p
part_lengths [] = refl
part_lengths (r ∷ rs) = omega (arith, outward_length r, later_lengths rs)

member_lengths : (m : Member) → lengths (turn_member m) ≡ lengths m
member_lengths [] = refl
member_lengths (p ∷ m) = omega (arith, part_lengths p, member_lengths m)

all_lengths_lem : (l : List Member) → all_lengths (map turn_member l) ≡ all_lengths l
all_lengths_lem [] = refl
all_lengths_lem (m ∷ l) = omega (arith, member_lengths m, all_lengths_lem l)

-- ---- the sheet
module _ (limit : ℕ) (n : Sheet) (h : T (sheet_fits limit n)) where
  -- The tests of the table and of the number of members, that of the members, and that of the points.
  abbrev front : Bool
  front = from_to 2 1024 (length n.table) && every triangle_fits n.table && leb (length n.polygons + 1) limit

  members : All (λ m. T (member_fits m)) n.polygons
  unfolding sheet_fits
  members = passed member_fits n.polygons
      (and_right front (every member_fits n.polygons) (and_left (front && every member_fits n.polygons) (leb (all_lengths n.polygons) 4096) h))

  -- Its rings are within the limits.
  pub fits_rings : RingsFit n
  fits_rings = all_map (λ m. T (member_fits m)) (All (All RingLimits)) member_limits n.polygons members

  -- With the rings of its members turned it is within the limits.
  pub members_fit : T (sheet_fits limit (record { table = n.table; polygons = map turn_member n.polygons }))
  unfolding sheet_fits
  members_fit =
      let turnedMembers =
      pass member_fits (map turn_member n.polygons)
      (all_image turn_member (λ m. T (member_fits m)) n.polygons (all_map (λ m. T (member_fits m)) (λ m. T (member_fits (turn_member m))) member_turned n.polygons members)) in
      rw (length-map n.polygons turn_member, all_lengths_lem n.polygons)
      (and_both (front && every member_fits (map turn_member n.polygons)) (leb (all_lengths n.polygons) 4096)
      (and_both front (every member_fits (map turn_member n.polygons))
      (and_left front (every member_fits n.polygons) (and_left (front && every member_fits n.polygons) (leb (all_lengths n.polygons) 4096) h)) turnedMembers)
      (and_right (front && every member_fits n.polygons) (leb (all_lengths n.polygons) 4096) h))
