-- Turning rings round: afterwards every first ring goes one way and every later one the other, what goes so stays, so that turning twice is turning once,
-- and the number of points and edges is kept. The idea: a ring in reverse order has the negative of its double area. Assumes nothing.
use mathlib.Core.Path.{◌≡◌, refl, ap₂}
use mathlib.Core.List.{List, [], ◌∷◌, map, flat_map, reverse}
use native.Mathlib.Omega.{arith}
use lib.IntN.{ℤ, pos, neg_ℤ}
use lib.ListN.{length, length-reverse, length-append, length-map}
use lib.Signed.{◌≤ℤ◌, ◌<ℤ◌, lt_z_yes, lt_z_no, clash_ℤ, ≤ℤ_refl}
use Rattle.whole.specs.Sums.{All}
use Rattle.whole.proofs.Int.{zify, ints, parts}
use Rattle.whole.proofs.Sums.{all_of, all_map, all_image}
use Rattle.whole.proofs.Tests.{by_test, by_cond}
use Rattle.plane.specs.Members.{Ring, Polygon, Member, edges, member_edges}
use Rattle.plane_rings.specs.Rings.{ring_area}
use Rattle.plane_rings.specs.Turning.{negative, positive, outward, inward, turn_polygon, turn_member}
use Rattle.plane_rings.specs.Directed.{Directed}
use Rattle.plane_rings.proofs.Areas.{area_reverse, edges_reverse}

-- ---- one ring
-- What holds of a ring and of its reverse holds of the ring as it is turned.
pub outward_keeps : (P : Ring → Type 0) (r : Ring) → P (reverse r) → P r → P (outward r)
unfolding outward
outward_keeps P r h k = by_cond P (negative r) (reverse r) r (λ t. h) k

pub inward_keeps : (P : Ring → Type 0) (r : Ring) → P (reverse r) → P r → P (inward r)
unfolding inward
inward_keeps P r h k = by_cond P (positive r) (reverse r) r (λ t. h) k

above : (z : ℤ) → z <ℤ pos 0 → pos 0 ≤ℤ neg_ℤ z
above z h = rw (parts z) (simp zify (omega (arith, ints)))

below : (z : ℤ) → pos 0 <ℤ z → neg_ℤ z ≤ℤ pos 0
below z h = rw (parts z) (simp zify (omega (arith, ints)))

pub outward_area : (r : Ring) → pos 0 ≤ℤ ring_area (outward r)
unfolding outward
outward_area r = by_test (λ s. pos 0 ≤ℤ ring_area s) (negative r) (reverse r) r (λ t. rw (area_reverse r) (above (ring_area r) (lt_z_yes t))) (λ t. lt_z_no t)

pub inward_area : (r : Ring) → ring_area (inward r) ≤ℤ pos 0
unfolding inward
inward_area r = by_test (λ s. ring_area s ≤ℤ pos 0) (positive r) (reverse r) r (λ t. rw (area_reverse r) (below (ring_area r) (lt_z_yes t))) (λ t. lt_z_no t)

pub outward_stays : (r : Ring) → pos 0 ≤ℤ ring_area r → outward r ≡ r
unfolding outward
outward_stays r h = by_test (λ s. s ≡ r) (negative r) (reverse r) r (λ t. clash_ℤ (lt_z_yes t) h) (λ t. refl)

pub inward_stays : (r : Ring) → ring_area r ≤ℤ pos 0 → inward r ≡ r
unfolding inward
inward_stays r h = by_test (λ s. s ≡ r) (positive r) (reverse r) r (λ t. clash_ℤ (lt_z_yes t) h) (λ t. refl)

-- A ring of double area 0 stays, first or later.
pub none_stays : (r : Ring) → ring_area r ≡ pos 0 → (outward r ≡ r) × (inward r ≡ r)
none_stays r e = (outward_stays r (rw e (≤ℤ_refl (pos 0))), inward_stays r (rw e (≤ℤ_refl (pos 0))))

-- A ring is turned, or not; it has as many points, it is closed if it was, and it has as many edges.
pub outward_length : (r : Ring) → length (outward r) ≡ length r
outward_length r = outward_keeps (λ s. length s ≡ length r) r (length-reverse r) refl

pub inward_length : (r : Ring) → length (inward r) ≡ length r
inward_length r = inward_keeps (λ s. length s ≡ length r) r (length-reverse r) refl

-- ---- polygons and members
pub turned_directed : (p : Polygon) → Directed (turn_polygon p)
turned_directed [] = tt
turned_directed (r ∷ rs) = (outward_area r, all_image inward (λ s. ring_area s ≤ℤ pos 0) rs (all_of (λ s. ring_area (inward s) ≤ℤ pos 0) inward_area rs))

-- Rings that go as they should stay.
all_stay : (rs : List Ring) → All (λ s. ring_area s ≤ℤ pos 0) rs → map inward rs ≡ rs
all_stay [] h = refl
all_stay (r ∷ rs) h = ap₂ {C = List Ring} ◌∷◌ (inward_stays r h.0) (all_stay rs h.1)

pub directed_stays : (p : Polygon) → Directed p → turn_polygon p ≡ p
directed_stays [] h = refl
directed_stays (r ∷ rs) h = ap₂ {C = List Ring} ◌∷◌ (outward_stays r h.0) (all_stay rs h.1)

pub turned_once : (p : Polygon) → turn_polygon (turn_polygon p) ≡ turn_polygon p
turned_once p = directed_stays (turn_polygon p) (turned_directed p)

pub member_directed : (m : Member) → All Directed (turn_member m)
member_directed m = all_image turn_polygon Directed m (all_of (λ p. Directed (turn_polygon p)) turned_directed m)

pub member_stays : (m : Member) → All Directed m → turn_member m ≡ m
member_stays [] h = refl
member_stays (p ∷ m) h = ap₂ {C = List Polygon} ◌∷◌ (directed_stays p h.0) (member_stays m h.1)

pub member_once : (m : Member) → turn_member (turn_member m) ≡ turn_member m
member_once m = member_stays (turn_member m) (member_directed m)

-- A polygon has as many rings as before, and a member as many polygons.
pub polygon_length : (p : Polygon) → length (turn_polygon p) ≡ length p
polygon_length [] = refl
polygon_length (r ∷ rs) = omega (arith, length-map rs inward)

-- What holds of each ring and of its reverse holds of each ring as it is turned.
module _ (P : Ring → Type 0) (back : (r : Ring) → P r → P (reverse r)) where
  pub rings_keep : (p : Polygon) → All P p → All P (turn_polygon p)
  rings_keep [] h = tt
  rings_keep (r ∷ rs) h = (
    outward_keeps P r (back r h.0) h.0,
    all_image inward P rs (all_map P (λ s. P (inward s)) (λ s k. inward_keeps P s (back s k) k) rs h.1),
  )

  pub member_keeps : (m : Member) → All (All P) m → All (All P) (turn_member m)
  member_keeps m h = all_image turn_polygon (All P) m (all_map (All P) (λ p. All P (turn_polygon p)) rings_keep m h)

-- What is counted in each ring alike before and after turning is counted alike in all.
module _ {A : Type 0} (f : Ring → List A) (back : (r : Ring) → length (f (reverse r)) ≡ length (f r)) where
  later_many : (rs : List Ring) → length (flat_map f (map inward rs)) ≡ length (flat_map f rs)
  unfolding flat_map
  later_many [] = refl
  later_many (r ∷ rs) = omega (
    arith,
    length-append (f r) (flat_map f rs),
    length-append (f (inward r)) (flat_map f (map inward rs)),
    inward_keeps (λ s. length (f s) ≡ length (f r)) r (back r) refl,
    later_many rs,
  )

  pub polygon_many : (p : Polygon) → length (flat_map f (turn_polygon p)) ≡ length (flat_map f p)
  unfolding flat_map
  polygon_many [] = refl
  polygon_many (r ∷ rs) = omega (
    arith,
    length-append (f r) (flat_map f rs),
    length-append (f (outward r)) (flat_map f (map inward rs)),
    outward_keeps (λ s. length (f s) ≡ length (f r)) r (back r) refl,
    later_many rs,
  )

  pub member_many : (m : Member) → length (flat_map (flat_map f) (turn_member m)) ≡ length (flat_map (flat_map f) m)
  unfolding flat_map
  member_many [] = refl
  member_many (p ∷ m) = omega (
    arith,
    length-append (flat_map f p) (flat_map (flat_map f) m),
    length-append (flat_map f (turn_polygon p)) (flat_map (flat_map f) (turn_member m)),
    polygon_many p,
    member_many m,
  )

-- A member has as many edges, and as many points, as before.
pub member_edges_lem : (m : Member) → length (member_edges (turn_member m)) ≡ length (member_edges m)
member_edges_lem m = member_many edges edges_reverse m
