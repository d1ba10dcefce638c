-- The sheet of a tree within the limits is a sheet within the limits. The idea: the sheet keeps the tree's counts and holds the numbers of
-- its coordinates, so each limit passes from the tree to the sheet, level by level. Assumes nothing.
use mathlib.Core.Path.{◌≡◌, refl, sym, ap, ◌∙◌, subst}
use mathlib.Core.Logic.{inl, inr}
use mathlib.Core.Bool.{Bool, ◌&&◌}
use mathlib.Core.List.{List, [], ◌∷◌, map}
use Prim.Native.Nat.{ℕ, zero, suc, ◌+◌, ◌-◌, ◌≤◌, ◌<◌}
use native.Mathlib.Omega.{arith}
use lib.Dec.{T, leb, le→leb}
use lib.Ieee.{binary64, of_bits}
use lib.IntN.{ℤ, pos, negsuc, neg_ℤ, nat_abs}
use lib.ListN.{length, get_or, length-map, length-append}
use Rattle.whole.specs.Sums.{All, every}
use Rattle.whole.proofs.Int.{up, down, is_add}
use Rattle.whole.proofs.Sums.{and_both, all-++, all_map, all_every, all_image}
use Rattle.plane.specs.Points.{same_point}
use Rattle.plane.specs.Members.{Polygon}
use Rattle.plane.specs.Corners.{millimetres}
use Rattle.plane.specs.Keys.{Held}
use Rattle.plane.proofs.Points.{same_point-refl}
use Rattle.sheet_coordinate.proofs.Meaning.{coordinate_only}
use Rattle.wkb.specs.Standard.{Pair, Geometry, ringed, holding, Geometries, none, ◌then◌, count}
use Rattle.sheet_standard.specs.Limits.{number_of, point_of, ring_of, member_of, members_of, corner, triangle_of, each, sheet_of, FromTo, IsCoordinate, RingFits, PolygonFits, PieceFits, PartFits, Each, MemberFits, MembersFit, all_lengths, SheetFits}
use Rattle.sheet_standard.proofs.Standard.{length_each}
use Rattle.sheet_written.specs.Fits.{from_to, in_range, point_fits, triangle_fits, origin, closed, ring_fits, part_fits, member_fits, sheet_fits}

-- ---- tests and lists
from_to_lem : (low high n : ℕ) → FromTo low high n → T (from_to low high n)
from_to_lem low high n h = and_both (leb low n) (leb n high) (le→leb low n h.0) (le→leb n high h.1)

-- The images of a list's members pass the test.
every_image : {A B : Type 0} (f : A → B) (p : B → Bool) (P : A → Type 0) → ((a : A) → P a → T (p (f a))) → (l : List A) → All P l → T (every p (map f l))
every_image f p P g l h = all_every p (λ b. T (p b)) (λ b t. t) (map f l) (all_image f (λ b. T (p b)) l (all_map P (λ a. T (p (f a))) g l h))

-- Within the list the default does not matter.
get_d_map : {A B : Type 0} (f : A → B) (l : List A) (i : ℕ) (a : A) (b : B) → i < length l → get_or (map f l) i b ≡ f (get_or l i a)
get_d_map f [] i a b h = absurd (omega arith)
get_d_map f (x ∷ l) zero a b h = refl
get_d_map f (x ∷ l) (suc i) a b h = get_d_map f l i a b (omega arith)

all_get_d : {A : Type 0} (P : A → Type 0) (l : List A) (i : ℕ) (a : A) → i < length l → All P l → P (get_or l i a)
all_get_d P [] i a h k = absurd (omega arith)
all_get_d P (x ∷ l) zero a h k = k.0
all_get_d P (x ∷ l) (suc i) a h k = all_get_d P l i a (omega arith) k.1

-- ---- points
held_size : (h : ℕ) → Held h → nat_abs (millimetres h) ≤ 10_000_000
held_size h k = go (millimetres h) (is_add (pos h) (neg_ℤ (pos 10_000_000)) h 0 0 10_000_000 refl refl)
  where
    go : (z : ℤ) → up z + (0 + 10_000_000) ≡ h + 0 + down z → nat_abs z ≤ 10_000_000
    go (pos a) e = omega arith
    go (negsuc a) e = omega arith

number_fits : (pattern : ℕ) → IsCoordinate pattern → T (in_range (number_of pattern))
unfolding number_of
number_fits pattern c = rw c.is (le→leb (nat_abs (millimetres c.h)) 10_000_000 (held_size c.h (coordinate_only (of_bits binary64 pattern) c.h c.is).0))

abbrev IsPoint : Pair → Type 0
IsPoint p = IsCoordinate p.x × IsCoordinate p.y

point_fits_lem : (p : Pair) → IsPoint p → T (point_fits (point_of p))
point_fits_lem p c = and_both (in_range (number_of p.x)) (in_range (number_of p.y)) (number_fits p.x c.0) (number_fits p.y c.1)

-- ---- polygons
ring_closed : (r : List Pair) → RingFits 4 4096 r → T (closed (ring_of r))
ring_closed r h =
    let n = h.number.0 in
    let nowhere : Pair = record { x = 0; y = 0 } in
    let last = get_d_map point_of r (length r - 1) nowhere origin (omega arith) in
    let first = get_d_map point_of r 0 nowhere origin (omega arith) in
    let same = ap (λ (k : ℕ). get_or (ring_of r) (k - 1) origin) (length-map r point_of) ∙ last ∙ h.closed ∙ sym first in
    subst (λ p. T (same_point (get_or (ring_of r) (length (ring_of r) - 1) origin) p)) same (same_point-refl (get_or (ring_of r) (length (ring_of r) - 1) origin))

ring_fits_lem : (r : List Pair) → RingFits 4 4096 r → T (ring_fits (ring_of r))
ring_fits_lem r h = and_both (from_to 4 4096 (length (ring_of r)) && every point_fits (ring_of r)) (closed (ring_of r))
    (and_both (from_to 4 4096 (length (ring_of r))) (every point_fits (ring_of r))
    (from_to_lem 4 4096 (length (ring_of r)) (rw (length-map r point_of) h.number))
    (every_image point_of point_fits IsPoint point_fits_lem r h.points))
    (ring_closed r h)

polygon_fits : (rs : List (List Pair)) → PolygonFits rs → T (part_fits (map ring_of rs))
polygon_fits rs h = and_both (from_to 1 64 (length (map ring_of rs))) (every ring_fits (map ring_of rs))
    (from_to_lem 1 64 (length (map ring_of rs)) (rw (length-map rs ring_of) h.0))
    (every_image ring_of ring_fits (RingFits 4 4096) ring_fits_lem rs h.1)

-- ---- members
abbrev IsPart : Polygon → Type 0
IsPart p = T (part_fits p)

-- Of geometries that fit there are no fewer polygons, as each has one at least.
parts_fit : (gs : Geometries) → Each PartFits gs → (count gs ≤ length (members_of gs)) × All IsPart (members_of gs)
unfolding member_of members_of
parts_fit none h = (omega arith, tt)
parts_fit (ringed little kind rs then gs) h =
    let r = parts_fit gs h.1 in
    (omega (arith, r.0), (polygon_fits rs h.0.1, r.1))
parts_fit (holding little kind hs then gs) h = absurd h.0

mutual
  unfolding member_of members_of MemberFits MembersFit

  member_parts : (g : Geometry) (deep : ℕ) → MemberFits g deep → (1 ≤ length (member_of g)) × All IsPart (member_of g)
  member_parts (ringed little kind rs) deep h = (omega arith, (polygon_fits rs h.1, tt))
  member_parts (holding little kind gs) deep h =
      let n = h.0.0 in
      elim h.1 [
        | inl a ↦ let r = parts_fit gs a.1 in (omega (arith, r.0), r.1)
        | inr a ↦ let r = members_parts gs deep a.1 in (omega (arith, r.0), r.1)
      ]

  members_parts : (gs : Geometries) (deep : ℕ) → MembersFit gs deep → (count gs ≤ length (members_of gs)) × All IsPart (members_of gs)
  members_parts none deep h = (omega arith, tt)
  members_parts (g then gs) zero h = absurd h
  members_parts (g then gs) (suc deep) h =
      let q = member_parts g deep h.0 in
      let r = members_parts gs (suc deep) h.1 in
      (omega (arith, q.0, r.0, length-append (member_of g) (members_of gs)), all-++ IsPart (member_of g) (members_of gs) q.1 r.1)

member_fits_lem : (g : Geometry) → MemberFits g 3 × (length (member_of g) ≤ 64) → T (member_fits (member_of g))
member_fits_lem g h =
    let r = member_parts g 3 h.0 in
    and_both (from_to 1 64 (length (member_of g))) (every part_fits (member_of g)) (from_to_lem 1 64 (length (member_of g)) (r.0, h.1))
    (all_every part_fits IsPart (λ p t. t) (member_of g) r.1)

-- ---- the table's pieces
piece_fits : (g : Geometry) → PieceFits g → T (triangle_fits (triangle_of g))
unfolding triangle_of
piece_fits (ringed little kind rs) h = and_both (point_fits (corner 0 rs) && point_fits (corner 1 rs)) (point_fits (corner 2 rs))
    (and_both (point_fits (corner 0 rs)) (point_fits (corner 1 rs)) (at 0 (omega arith)) (at 1 (omega arith))) (at 2 (omega arith))
  where
    at : (k : ℕ) → k < 4 → T (point_fits (corner k rs))
    at k l =
        let one = h.1 in
        let r : RingFits 4 4 (get_or rs 0 []) = all_get_d (RingFits 4 4) rs 0 [] (omega arith) h.2 in
        let n = r.number.0 in
        point_fits_lem _ (all_get_d IsPoint (get_or rs 0 []) k (record { x = 0; y = 0 }) (omega arith) r.points)
piece_fits (holding little kind gs) h = absurd h

-- ---- the sheet
all_each : {A : Type 0} (f : Geometry → A) (P : Geometry → Type 0) (Q : A → Type 0) → ((g : Geometry) → P g → Q (f g)) → (gs : Geometries) → Each P gs → All Q (each f gs)
all_each f P Q k none h = tt
all_each f P Q k (g then gs) h = (k g h.0, all_each f P Q k gs h.1)

every_each : {A : Type 0} (f : Geometry → A) (p : A → Bool) (P : Geometry → Type 0) → ((g : Geometry) → P g → T (p (f g))) → (gs : Geometries) → Each P gs → T (every p (each f gs))
every_each f p P k gs h = all_every p (λ a. T (p a)) (λ a t. t) (each f gs) (all_each f P (λ a. T (p a)) k gs h)

pub read_fits : (limit : ℕ) (g : Geometry) → SheetFits limit g → T (sheet_fits limit (sheet_of g))
unfolding SheetFits sheet_of sheet_fits
read_fits limit (ringed little kind rs) h = absurd h
read_fits limit (holding little kind none) h = absurd h
read_fits limit (holding little kind (ringed l k rs then ms)) h = absurd h.2
read_fits limit (holding little kind (holding l k gs then ms)) h =
    let table = each triangle_of gs in
    let polygons = each member_of ms in
    and_both (from_to 2 1024 (length table) && every triangle_fits table && leb (length polygons + 1) limit && every member_fits polygons) (leb (all_lengths polygons) 4096)
    (and_both (from_to 2 1024 (length table) && every triangle_fits table && leb (length polygons + 1) limit) (every member_fits polygons)
    (and_both (from_to 2 1024 (length table) && every triangle_fits table) (leb (length polygons + 1) limit)
    (and_both (from_to 2 1024 (length table)) (every triangle_fits table)
    (from_to_lem 2 1024 (length table) (rw (length_each triangle_of gs) h.2.1))
    (every_each triangle_of triangle_fits PieceFits piece_fits gs h.2.2))
    (le→leb (length polygons + 1) limit (omega (arith, length_each member_of ms, h.1))))
    (every_each member_of member_fits (λ g. MemberFits g 3 × (length (member_of g) ≤ 64)) member_fits_lem ms h.3))
    (le→leb (all_lengths polygons) 4096 h.4)
