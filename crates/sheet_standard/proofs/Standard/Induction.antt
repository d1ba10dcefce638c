-- Reading the members of the sheet from any place under one of them, both ways, by induction on the bytes that are left. Assumes nothing.
use mathlib.Core.Path.{◌≡◌, refl, sym, ap}
use mathlib.Core.Bool.{Bool, true, false}
use mathlib.Core.List.{List, [], ◌∷◌, map, flat_map, append-nil}
use Prim.Native.Nat.{ℕ, zero, suc, ◌+◌, ◌≤◌, ◌<◌}
use native.Mathlib.Omega.{arith}
use lib.ListN.{length, length-drop, drop_of_length-le}
use lib.Seq.{set-get_or}
use Rattle.plane.specs.Corners.{millimetres}
use Rattle.wkb.specs.declared.Cursor.{Cursor}
use Rattle.wkb.specs.Standard.{Pair, Geometries, none, ◌then◌, count, encode_all}
use Rattle.wkb.proofs.Complete.{Complete, complete_is}
use Rattle.sheet.specs.Reading.{Taken}
use Rattle.sheet.specs.Going.{reading}
use Rattle.sheet_standard.specs.Limits.{members_of, Each, MembersFit}
use Rattle.lent_fields.proofs.Fields.{Bytes}
use Rattle.sheet_standard.proofs.Standard.Steps.{end_goes, end_back}
use Rattle.sheet_standard.proofs.Standard.Left.{Left, only, left_bytes, left_open, Top, Group, Below, Stands, Good, front, left_numbers, outcome, Ends, no_polygon, Found, Through, Back}
use Rattle.sheet_standard.proofs.Standard.Points.{no_header, point_through, point_return}
use Rattle.sheet_standard.proofs.Standard.Rings.{ring_through, ring_return}
use Rattle.sheet_standard.proofs.Standard.Levels.{part, own, second, third, fourth}
use Rattle.sheet_standard.proofs.Standard.Members.{geometry_through, geometry_return}

-- The counts of a place where nothing of the member is left.
pub below_only : (c : Cursor) {n : ℕ} (ms : Geometries) → Complete c → Group (Each Top) n ms → Below c.parts c.fourth c.third c.second n (only ms)
unfolding MembersFit
below_only c ms k m = record { parts_are = (sym k.no_parts, tt); fourth_are = (sym k.no_fourth, tt); third_are = (sym k.no_third, tt); second_are = (sym k.no_second, tt); members_are = m }

only_below : {s : List ℕ} {c : Cursor} {b : Taken} {ms : Geometries} → c.header ≡ false → Stands s c b [] [] (only ms) → Complete c
only_below e h = record {
  no_header = e;
  no_second = sym h.below.second_are.0;
  no_third = sym h.below.third_are.0;
  no_fourth = sym h.below.fourth_are.0;
  no_parts = sym h.below.parts_are.0;
  no_rings = sym h.polygon.rings_number;
  no_points = sym h.polygon.points_number;
}

end_through : (s : List ℕ) (c : Cursor) (b : Taken) → Good s c b → Complete c → Stands s c b [] [] (only none) → Ends (reading s c b) (outcome c b [] [] (only none))
unfolding outcome front flat_map left_open left_numbers left_bytes members_of encode_all
end_through s c b g k h =
    let m = g.raw.marked k.no_header in
    let z : c.polygons + 0 ≡ c.polygons = omega arith in
    let member : 1 ≤ c.member = let m = g.raw.member in omega arith in
    let e : c.at ≡ length s = omega (arith, g.raw.within, length-drop c.at s, ap length h.polygon.bytes) in
    rw (end_goes s c b k.no_points k.no_rings member (complete_is c k) e)
    (refl, rw (k.no_header, z, ← m.1, set-get_or b.numbers b.mark 0) (sym (append-nil (map millimetres b.numbers))))

module _ (s : List ℕ) (c : Cursor) (b : Taken) (g : Good s c b) (later : Through s c) where
  dispatch : (ps : List Pair) (rs : List (List Pair)) (p4 : Geometries) (t : Bool) → c.header ≡ t → (q4 q3 q2 ms : Geometries)
      → Stands s c b ps rs (record { parts = p4; fourth = q4; third = q3; second = q2; members = ms })
      → Ends (reading s c b) (outcome c b ps rs (record { parts = p4; fourth = q4; third = q3; second = q2; members = ms }))
  dispatch (p ∷ ps) rs p4 t e q4 q3 q2 ms h = point_through s c b p ps rs _ g.raw h later
  dispatch [] (r ∷ rs) p4 t e q4 q3 q2 ms h = ring_through s c b r rs _ g.raw h later
  dispatch [] [] (x then xs) t e q4 q3 q2 ms h =
      let some : 0 < c.parts = let n = h.below.parts_are.0 in omega arith in
      geometry_through s c b part
      (record { raw = g.raw; no_points = sym h.polygon.points_number; no_rings = sym h.polygon.rings_number; at_it = (no_header g.raw (λ e. let z = (g.raw.own e).2 in absurd (omega arith)), some) })
      x (record { parts = xs; fourth = q4; third = q3; second = q2; members = ms }) h later
  dispatch [] [] none true e q4 q3 q2 none h = let n : 0 ≡ c.members + 1 = rw e at h.below.members_are.0 in absurd (omega arith)
  dispatch [] [] none true e q4 q3 q2 (x then xs) h =
      geometry_through s c b own (record { raw = g.raw; no_points = sym h.polygon.points_number; no_rings = sym h.polygon.rings_number; at_it = (e, sym h.below.parts_are.0) })
      x (record { parts = none; fourth = q4; third = q3; second = q2; members = xs }) h later
  dispatch [] [] none false e (x then xs) q3 q2 ms h =
      let some : 0 < c.fourth = let n = h.below.fourth_are.0 in omega arith in
      geometry_through s c b fourth (record { raw = g.raw; no_points = sym h.polygon.points_number; no_rings = sym h.polygon.rings_number; at_it = (e, sym h.below.parts_are.0, some) })
      x (record { parts = none; fourth = xs; third = q3; second = q2; members = ms }) h later
  dispatch [] [] none false e none (x then xs) q2 ms h =
      let some : 0 < c.third = let n = h.below.third_are.0 in omega arith in
      geometry_through s c b third (record { raw = g.raw; no_points = sym h.polygon.points_number; no_rings = sym h.polygon.rings_number; at_it = (e, sym h.below.parts_are.0, sym h.below.fourth_are.0, some) })
      x (record { parts = none; fourth = none; third = xs; second = q2; members = ms }) h later
  dispatch [] [] none false e none none (x then xs) ms h =
      let some : 0 < c.second = let n = h.below.second_are.0 in omega arith in
      geometry_through s c b second (record { raw = g.raw; no_points = sym h.polygon.points_number; no_rings = sym h.polygon.rings_number; at_it = (e, sym h.below.parts_are.0, sym h.below.fourth_are.0, sym h.below.third_are.0, some) })
      x (record { parts = none; fourth = none; third = none; second = xs; members = ms }) h later
  dispatch [] [] none false e none none none (x then xs) h =
      let n : suc (count xs) ≡ c.members + 0 = rw e at h.below.members_are.0 in
      let z = g.going (complete_is c (only_below e h)) in
      absurd (omega arith)
  dispatch [] [] none false e none none none none h = end_through s c b g (only_below e h) h

-- Where lists stand at a place under a member, reading ends with code 0 and their numbers.
pub members_through : (n : ℕ) (s : List ℕ) (c : Cursor) (b : Taken) (ps : List Pair) (rs : List (List Pair)) (w : Left) → length s < n + c.at → Good s c b → Stands s c b ps rs w → Ends (reading s c b) (outcome c b ps rs w)
members_through zero s c b ps rs w l g h = let z = g.raw.within in absurd (omega arith)
members_through (suc n) s c b ps rs w l g h =
    dispatch s c b g (λ d e ps' rs' w' m good stands. members_through n s d e ps' rs' w' (omega arith) good stands) ps rs w.parts c.header refl w.fourth w.third w.second w.members h

-- ---- backward
end_return : (s : List ℕ) (c : Cursor) (b : Taken) → Good s c b → Complete c → (reading s c b).code ≡ 0 → Found s c b
unfolding flat_map left_open left_bytes members_of encode_all
end_return s c b g k code =
    let member : 1 ≤ c.member = let m = g.raw.member in omega arith in
    let e = end_back s c b k.no_points k.no_rings member (complete_is c k) code in
    let z = g.going (complete_is c k) in (
      [],
      [],
      only none,
      record {
        polygon = no_polygon k.no_points k.no_rings (drop_of_length-le s {i = c.at} (omega arith));
        polygons_fit = let m = g.raw.many in omega arith;
        total_fits = let m = g.raw.total in omega arith;
        below = below_only c none k (rw k.no_header (omega arith), tt);
      },
    )

module _ (s : List ℕ) (c : Cursor) (b : Taken) (bytes : Bytes s) (g : Good s c b) (code : (reading s c b).code ≡ 0) (later : Back s c) where
  search_back : (p r h4 : ℕ) (t : Bool) (q4 q3 q2 : ℕ) → c.points ≡ p → c.rings ≡ r → c.parts ≡ h4 → c.header ≡ t → c.fourth ≡ q4 → c.third ≡ q3 → c.second ≡ q2 → Found s c b
  search_back (suc p) r h4 t q4 q3 q2 ep er eh et e4 e3 e2 = point_return s c b bytes g.raw (omega arith) code later
  search_back zero (suc r) h4 t q4 q3 q2 ep er eh et e4 e3 e2 = ring_return s c b bytes g.raw ep (omega arith) code later
  search_back zero zero (suc h4) t q4 q3 q2 ep er eh et e4 e3 e2 =
      let some : 0 < c.parts = omega arith in
      geometry_return s c b part (record { raw = g.raw; no_points = ep; no_rings = er; at_it = (no_header g.raw (λ e. let z = (g.raw.own e).2 in absurd (omega arith)), some) }) bytes code later
  search_back zero zero zero true q4 q3 q2 ep er eh et e4 e3 e2 = geometry_return s c b own (record { raw = g.raw; no_points = ep; no_rings = er; at_it = (et, eh) }) bytes code later
  search_back zero zero zero false (suc q4) q3 q2 ep er eh et e4 e3 e2 =
      geometry_return s c b fourth (record { raw = g.raw; no_points = ep; no_rings = er; at_it = (et, eh, omega arith) }) bytes code later
  search_back zero zero zero false zero (suc q3) q2 ep er eh et e4 e3 e2 =
      geometry_return s c b third (record { raw = g.raw; no_points = ep; no_rings = er; at_it = (et, eh, e4, omega arith) }) bytes code later
  search_back zero zero zero false zero zero (suc q2) ep er eh et e4 e3 e2 =
      geometry_return s c b second (record { raw = g.raw; no_points = ep; no_rings = er; at_it = (et, eh, e4, e3, omega arith) }) bytes code later
  search_back zero zero zero false zero zero zero ep er eh et e4 e3 e2 =
      end_return s c b g (record { no_header = et; no_second = e2; no_third = e3; no_fourth = e4; no_parts = eh; no_rings = er; no_points = ep }) code

-- Where reading from a place under a member ends with code 0, lists stand there.
pub members_back : (n : ℕ) (s : List ℕ) (c : Cursor) (b : Taken) → length s < n + c.at → Bytes s → Good s c b → (reading s c b).code ≡ 0 → Found s c b
members_back zero s c b l bytes g code = let z = g.raw.within in absurd (omega arith)
members_back (suc n) s c b l bytes g code =
    search_back s c b bytes g code (λ d e m good code'. members_back n s d e (omega arith) bytes good code') c.points c.rings c.parts c.header c.fourth c.third c.second refl refl refl refl refl refl refl
