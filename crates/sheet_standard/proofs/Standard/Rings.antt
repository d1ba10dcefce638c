-- A ring's count, in the table and under a member: what one turn of reading does to the lists of what is left, both ways; the first ring left becomes the
-- points left. Under a member the count adds itself. Assumes nothing.
use mathlib.Core.Path.{◌≡◌, refl, sym, ◌∙◌, ap}
use mathlib.Core.Bool.{true, false, true≢false}
use mathlib.Core.List.{List, [], ◌∷◌, ◌++◌, map, flat_map, append_assoc}
use Prim.Native.Nat.{ℕ, suc, ◌+◌, ◌-◌, ◌^◌, ◌≤◌, ◌<◌}
use native.Mathlib.Omega.{arith}
use borrow.Author.Tests.{ne_eqb, le-leb, leb-true}
use lib.ListN.{length, drop, get_or, length-map}
use Rattle.sheet_coordinate.proofs.Doubles.{and_true}
use Rattle.wkb.specs.declared.Cursor.{Cursor}
use Rattle.wkb.specs.Places.{moved, rings_to_come, points_to_come, points_counted}
use Rattle.lent_little.specs.Ordered.{bytes_of}
use Rattle.wkb.specs.Standard.{Pair, encode_point, encode_ring}
use Rattle.wkb.specs.Steps.{ring_fits, with_points}
use Rattle.wkb.proofs.Complete.{is_complete}
use Rattle.sheet_form.specs.Numbers.{point_numbers, ring_numbers}
use Rattle.sheet.specs.Reading.{Taken, held, first_to_come, push, ringing}
use Rattle.sheet.specs.Going.{reading}
use Rattle.sheet_standard.specs.Limits.{point_of, ring_of, FromTo}
use Rattle.lent_fields.proofs.Fields.{Bytes, reads}
use Rattle.sheet_standard.proofs.Standard.Steps.{ring_goes, RingRead, ring_back}
use Rattle.sheet_standard.proofs.Standard.Left.{Left, left_open, last_of, Closes, OpenPolygon, Stands, Raw, Good, front, left_numbers, outcome, Ends, millimetres_count, pushed, still_marked, no_ring, Found, Through, Back}
use Rattle.sheet_standard.proofs.Standard.Points.{no_header}

pub regroup : (a b c d : List ℕ) → ((a ++ b) ++ c) ++ d ≡ a ++ (b ++ (c ++ d))
regroup a b c d = simp append_assoc

last_is : (p : Pair) (l : List Pair) (d : Pair) → get_or (p ∷ l) (length l) d ≡ last_of p l
last_is p [] d = refl
last_is p (q ∷ l) d = last_is q l d

-- A ring is closed exactly if its last point closes it when its first is still to come.
closed_is : (b : Taken) (ps : List Pair) → b.first ≡ true → point_of (get_or ps (length ps - 1) (record { x = 0; y = 0 })) ≡ point_of (get_or ps 0 (record { x = 0; y = 0 })) → Closes b ps
closed_is b [] f h = tt
closed_is b (p ∷ l) f h = let e : suc (length l) - 1 ≡ length l = omega arith in rw (f, ← last_is p l (record { x = 0; y = 0 })) (rw e at h)

is_closed : (b : Taken) (ps : List Pair) → b.first ≡ true → Closes b ps → point_of (get_or ps (length ps - 1) (record { x = 0; y = 0 })) ≡ point_of (get_or ps 0 (record { x = 0; y = 0 }))
is_closed b [] f h = refl
is_closed b (p ∷ l) f h = let e : suc (length l) - 1 ≡ length l = omega arith in rw (e, last_is p l (record { x = 0; y = 0 })) (rw f at h)

-- ---- a ring of the open polygon
-- Reading goes on behind the ring's count, where its points stand.
pub record RingCounted (high : ℕ) (s : List ℕ) (c : Cursor) (b : Taken) (ps : List Pair) (rs : List (List Pair)) (rest : List ℕ) : Type 0 where
  pub fits : c.at + 4 ≤ length s
  pub goes : reading s c b ≡ reading s (with_points (length ps) c) (ringing c (length ps) b)
  pub polygon : OpenPolygon high s (with_points (length ps) c) (ringing c (length ps) b) ps rs rest

module _ {high : ℕ} {s : List ℕ} (c : Cursor) {b : Taken} {ps : List Pair} {rs : List (List Pair)} {rest : List ℕ} where
  pub ring_counted : c.at ≤ length s → high ≤ 4096 → ring_fits c (length ps) ≡ true → OpenPolygon high s c b [] (ps ∷ rs) rest → RingCounted high s c b ps rs rest
  unfolding flat_map encode_ring with_points ringing
  ring_counted within most allowed h =
      let n = length ps in
      let f = h.rings_fit.0 in
      let m = h.rings_number in
      let word : n < 256 ^ 4 = omega (arith, f.number.1) in
      let q = reads c.little 4 s c.at n _ within word (h.bytes ∙ regroup (bytes_of c.little 4 n) (flat_map (encode_point c.little) ps) (flat_map (encode_ring c.little) rs) rest) in
      record {
        fits = q.fits;
        goes = ring_goes s c b n _ (sym h.points_number) (omega arith) q allowed;
        polygon = record { points_number = refl; rings_number = omega arith; bytes = q.next; points_fit = f.points; closes = closed_is (ringing c n b) ps refl f.closed; rings_fit = h.rings_fit.1 };
      }

  pub ring_before : (k : RingRead s c b) → c.points ≡ 0 → 0 < c.rings → FromTo 4 high k.n → {d : Cursor} {b' : Taken} → with_points k.n c ≡ d → ringing c k.n b ≡ b'
      → OpenPolygon high s d b' ps rs rest → OpenPolygon high s c b [] (ps ∷ rs) rest
  unfolding flat_map encode_ring with_points ringing
  ring_before k z some f place taken o =
      let h : OpenPolygon high s (with_points k.n c) (ringing c k.n b) ps rs rest = rw (← place, ← taken) at o in
      let n = h.points_number in
      let m = h.rings_number in
      let count = bytes_of c.little 4 k.n in
      let bytes : drop c.at s ≡ flat_map (encode_ring c.little) (ps ∷ rs) ++ rest =
      k.bytes ∙ ap (λ l. count ++ l) h.bytes ∙ rw n (sym (regroup count (flat_map (encode_point c.little) ps) (flat_map (encode_ring c.little) rs) rest)) in
      no_ring z (omega arith) bytes (record { number = (omega (arith, f.0), omega (arith, f.1)); points = h.points_fit; closed = is_closed (ringing c k.n b) ps refl h.closes }, h.rings_fit)

-- ---- under a member
abbrev with_ring : ℕ → Taken → Taken
with_ring n b = first_to_come (push (held n) b)

ringing_member : (c : Cursor) (n : ℕ) (b : Taken) → 2 ≤ c.member → ringing c n b ≡ with_ring n b
unfolding ringing
ringing_member c n b h = rw (ne_eqb c.member 1 (λ e. absurd (omega arith))) refl

-- The place after a ring's count.
abbrev counted : ℕ → Cursor → Cursor
counted n c = rings_to_come (c.rings - 1) (points_to_come n (points_counted (c.total + n) (moved 4 c)))

with_points-member : (n : ℕ) (c : Cursor) → 2 ≤ c.member → with_points n c ≡ counted n c
unfolding with_points
with_points-member n c h = rw (ne_eqb c.member 1 (λ e. absurd (omega arith))) refl

ring_allowed : (c : Cursor) (n : ℕ) → 2 ≤ c.member → (4 ≤ n) × (n ≤ 4096) × (c.total + n ≤ 4096) → ring_fits c n ≡ true
unfolding ring_fits
ring_allowed c n h l = rw (ne_eqb c.member 1 (λ e. absurd (omega arith)), le-leb 4 n l.0, le-leb n 4096 l.1, le-leb (c.total + n) 4096 l.2) refl

allowed_ring : (c : Cursor) (n : ℕ) → 2 ≤ c.member → ring_fits c n ≡ true → (4 ≤ n) × (n ≤ 4096) × (c.total + n ≤ 4096)
unfolding ring_fits
allowed_ring c n h e =
    let k = and_true _ _ (rw (ne_eqb c.member 1 (λ e. absurd (omega arith))) at e) in
    let j = and_true _ _ k.0 in
    (leb-true 4 n j.0, leb-true n 4096 j.1, leb-true (c.total + n) 4096 k.1)

module _ (s : List ℕ) (c : Cursor) (b : Taken) (r : Raw s c b) (some : 0 < c.rings) (n : ℕ) (fits : c.at + 4 ≤ length s) (four : 4 ≤ n) (total : c.total + n ≤ 4096) where
  ring_header : c.header ≡ false
  ring_header = no_header r (λ e. let z = (r.own e).1 in absurd (omega arith))

  ring_good : Good s (counted n c) (with_ring n b)
  ring_good = record {
    raw = record {
      within = fits;
      member = r.member;
      many = r.many;
      total = total;
      own = λ e. absurd (true≢false (sym e ∙ ring_header));
      marked = λ e. still_marked b.numbers (held n ∷ []) b.mark (held c.polygons) (r.marked e);
    };
    going = λ e. let z = (is_complete (counted n c) e).no_points in absurd (omega arith);
  }

  ring_outcome : (ps : List Pair) (rs : List (List Pair)) (w : Left) → length ps ≡ n → outcome (counted n c) (with_ring n b) ps rs w ≡ outcome c b [] (ps ∷ rs) w
  unfolding outcome front flat_map
  ring_outcome ps rs w number =
      rw (ring_header, length-map ps point_of, number, append_assoc (flat_map point_numbers (map point_of ps)) (flat_map ring_numbers (map ring_of rs)) (left_numbers (left_open w) w.members), ← millimetres_count n)
      (pushed b.numbers (held n ∷ []) b.mark (held (c.polygons + length (left_open w))) _ (r.marked ring_header).0)

pub ring_through : (s : List ℕ) (c : Cursor) (b : Taken) (ps : List Pair) (rs : List (List Pair)) (w : Left) → Raw s c b → Stands s c b [] (ps ∷ rs) w → Through s c → Ends (reading s c b) (outcome c b [] (ps ∷ rs) w)
ring_through s c b ps rs w r h later =
    let n = length ps in
    let some : 0 < c.rings = let m = h.polygon.rings_number in omega arith in
    let f = h.polygon.rings_fit.0.number in
    let t = h.total_fits in
    let l = length-map ps point_of in
    let total : c.total + n ≤ 4096 = omega arith in
    let q = ring_counted c r.within (omega arith) (ring_allowed c n r.member (f.0, f.1, total)) h.polygon in
    let place = with_points-member n c r.member in
    let taken = ringing_member c n b r.member in
    rw (q.goes, place, taken, ← ring_outcome s c b r some n q.fits f.0 total ps rs w refl)
    (later (counted n c) (with_ring n b) ps rs w (omega arith) (ring_good s c b r some n q.fits f.0 total)
    (record { polygon = rw (place, taken) at q.polygon; below = h.below; polygons_fit = h.polygons_fit; total_fits = omega arith }))

pub ring_return : (s : List ℕ) (c : Cursor) (b : Taken) → Bytes s → Raw s c b → c.points ≡ 0 → 0 < c.rings → (reading s c b).code ≡ 0 → Back s c → Found s c b
ring_return s c b bytes r z some code later =
    let k = ring_back s c b bytes z some code in
    let n = k.n in
    let a = allowed_ring c n r.member k.allowed in
    let place = with_points-member n c r.member in
    let taken = ringing_member c n b r.member in
    let f = later (counted n c) (with_ring n b) (omega arith) (ring_good s c b r some n k.fits a.0 a.2) (rw (place, taken) at k.on_with) in
    let t = f.3.total_fits in
    let l = length-map f.0 point_of in
    let m = f.3.polygon.points_number in
    ([], f.0 ∷ f.1, f.2, record { polygon = ring_before c k z some (a.0, a.1) place taken f.3.polygon; below = f.3.below; polygons_fit = f.3.polygons_fit; total_fits = omega arith })
