-- Points and lines written one behind the other: what is written with what is left to write are all of them, before and after each. Assumes nothing.
use mathlib.Core.Path.{◌≡◌, refl, sym, ◌∙◌, ap, ap₂}
use mathlib.Core.Bool.{true}
use mathlib.Core.List.{List, [], ◌∷◌, ◌++◌, map, flat_map}
use Prim.Native.Nat.{ℕ, suc, ◌+◌, ◌-◌, ◌*◌, ◌≤◌, ◌<◌}
use native.Mathlib.Numerals.{add-one}
use native.Mathlib.Omega.{arith}
use lib.ListN.{length, get_or, take, drop, length-map, length-drop, drop_of_length-le}
use lib.Seq.{sets, length-sets, drop-cons, length-take-le}
use Rattle.lent_little.specs.Held.{end_of}
use Rattle.lent_little.proofs.Stored.{sets_behind}
use Rattle.repair_longest.specs.Held.{point_held}
use Rattle.wkb_header.specs.Header.{headed}
use Rattle.wkb.specs.Standard.{encode_point}
use Rattle.wkb_lines.specs.Lines.{line_string, multi_line_string, encode_line}
use Rattle.wkb_lines.specs.Room.{room_of}
use Rattle.wkb_lines.proofs.Lengths.{headed_nine, point_sixteen, line_length}
use Rattle.sheet_written.specs.Normal.{pair_of}
use Rattle.sheet_ring_bytes.specs.Lines.{line_bytes}
use Rattle.sheet_ring_bytes.specs.Held.{line_held, rings_in, Rising}

-- Things written over the front of what is left: one more is written, and none is left.
pub put_more : (o l m : List ℕ) (at next : ℕ) {p all : List ℕ} → next ≡ at + length l → p ≡ sets o at l → sets o at (l ++ m) ≡ all → sets p next m ≡ all
put_more o l m at next e f g = ap (λ q. sets q next m) f ∙ sets_behind o l m at next e ∙ g

-- ---- the points of a line
-- The bytes of corner c, and of where each side ends.
abbrev pub corner_bytes : List ℕ → ℕ → List ℕ
corner_bytes numbers c = encode_point true (pair_of (point_held numbers c))

abbrev pub end_bytes : List ℕ → List ℕ → List ℕ
end_bytes numbers = flat_map (λ k. corner_bytes numbers (end_of k))

abbrev line_of : List ℕ → List ℕ → List ℕ
line_of numbers ring = encode_line (map pair_of (line_held numbers ring))

ends_are : (numbers l : List ℕ) → flat_map (encode_point true) (map pair_of (map (λ d. point_held numbers (end_of d)) l)) ≡ end_bytes numbers l
unfolding flat_map
ends_are numbers [] = refl
ends_are numbers (k ∷ l) = ap (λ m. corner_bytes numbers (end_of k) ++ m) (ends_are numbers l)

pub ring_points : (numbers ring : List ℕ) → 1 ≤ length ring → length (line_held numbers ring) ≡ length ring + 1
ring_points numbers [] h = absurd (omega arith)
ring_points numbers (k ∷ r) h = omega (arith, length-map (k ∷ r) (λ d. point_held numbers (end_of d)))

-- A line is its header, its first corner, and where each side ends.
line_is : (numbers ring : List ℕ) → 1 ≤ length ring → line_of numbers ring ≡ headed line_string (length ring + 1) ++ (corner_bytes numbers (get_or ring 0 0) ++ end_bytes numbers ring)
unfolding flat_map
line_is numbers [] h = absurd (omega arith)
line_is numbers (k ∷ r) h =
    ap₂ (λ n m. headed line_string n ++ (corner_bytes numbers k ++ m))
    (length-map (line_held numbers (k ∷ r)) pair_of ∙ ring_points numbers (k ∷ r) h)
    (ends_are numbers (k ∷ r))

-- The ends of the first i sides are written from a place on, and those of the others are left.
pub record Ends (numbers ring : List ℕ) (at : ℕ) (before : List ℕ) (i : ℕ) (out : List ℕ) : Type 0 where
  pub within : i ≤ length ring
  pub long : length out ≡ length before
  pub rest : sets out (at + 16 * i) (end_bytes numbers (drop i ring)) ≡ sets before at (end_bytes numbers ring)

module _ (numbers ring : List ℕ) (at : ℕ) (before : List ℕ) where
  pub ends_none : Ends numbers ring at before 0 before
  ends_none = let z : at + 16 * 0 ≡ at = omega arith in record { within = omega arith; long = refl; rest = rw z refl }

  module _ {i : ℕ} {out : List ℕ} (l : Ends numbers ring at before i out) where
    pub ends_more : (p : List ℕ) → i < length ring → p ≡ sets out (at + 16 * i) (corner_bytes numbers (end_of (get_or ring i 0))) → Ends numbers ring at before (i + 1) p
    unfolding flat_map
    ends_more p h e =
        let v = corner_bytes numbers (end_of (get_or ring i 0)) in
        record {
          within = omega arith;
          long = ap length e ∙ length-sets out (at + 16 * i) v ∙ l.long;
          rest = rw add-one
              (put_more out v (end_bytes numbers (drop (suc i) ring)) (at + 16 * i) (at + 16 * suc i) (omega (arith, point_sixteen (pair_of (point_held numbers (end_of (get_or ring i 0)))))) e
              (rw (drop-cons ring i 0 h) at l.rest));
        }

    pub ends_all : length ring ≤ i → out ≡ sets before at (end_bytes numbers ring)
    unfolding flat_map
    ends_all h = rw (drop_of_length-le ring {i = i} h) at l.rest

-- The header, the first corner and the ends one behind the other are the line.
pub line_put : (numbers ring : List ℕ) (to : ℕ) (o : List ℕ) {p q r : List ℕ} → 1 ≤ length ring → p ≡ sets o to (headed line_string (length ring + 1))
    → q ≡ sets p (to + 9) (corner_bytes numbers (get_or ring 0 0)) → r ≡ sets q (to + 25) (end_bytes numbers ring) → r ≡ sets o to (encode_line (map pair_of (line_held numbers ring)))
line_put numbers ring to o {p} h e f g =
    let first = corner_bytes numbers (get_or ring 0 0) in
    g
    ∙ put_more p first (end_bytes numbers ring) (to + 9) (to + 25) (omega (arith, point_sixteen (pair_of (point_held numbers (get_or ring 0 0))))) f refl
    ∙ put_more o (headed line_string (length ring + 1)) (first ++ end_bytes numbers ring) to (to + 9) (omega (arith, headed_nine line_string (length ring + 1))) e refl
    ∙ ap (sets o to) (sym (line_is numbers ring h))

-- ---- the lines
ring_bytes : (numbers ring : List ℕ) → 1 ≤ length ring → length (line_of numbers ring) ≡ 25 + 16 * length ring
ring_bytes numbers ring h = omega (arith, line_length (map pair_of (line_held numbers ring)), length-map (line_held numbers ring) pair_of, ring_points numbers ring h)

lines_are : (numbers : List ℕ) (rs : List (List ℕ)) → flat_map encode_line (map (map pair_of) (map (line_held numbers) rs)) ≡ flat_map (line_of numbers) rs
unfolding flat_map
lines_are numbers [] = refl
lines_are numbers (r ∷ rs) = ap (λ m. line_of numbers r ++ m) (lines_are numbers rs)

-- As many rings as ends.
pub rings_many : (at : ℕ) (order ends : List ℕ) → length (rings_in at order ends) ≡ length ends
rings_many at order [] = refl
rings_many at order (e ∷ ends) = ap suc (rings_many e order ends)

part_length : (order : List ℕ) (at e : ℕ) → at ≤ e → e ≤ length order → length (take (e - at) (drop at order)) ≡ e - at
part_length order at e h g = length-take-le (e - at) (drop at order) (omega (arith, length-drop at order))

-- The first r lines are written, the sides of their rings being those before a place, and the other lines are left.
pub record Lines (numbers order ends before : List ℕ) (begin r : ℕ) (out : List ℕ) : Type 0 where
  pub within : r ≤ length ends
  pub near : begin ≤ length order
  pub long : length out ≡ length before
  pub rising : Rising begin (drop r ends) (length order)
  pub rest : sets out (room_of begin r) (flat_map (line_of numbers) (rings_in begin order (drop r ends))) ≡ sets before 9 (flat_map (line_of numbers) (rings_in 0 order ends))

module _ (numbers order ends before : List ℕ) where
  pub lines_none : Rising 0 ends (length order) → Lines numbers order ends before 0 0 before
  lines_none h = record { within = omega arith; near = omega arith; long = refl; rising = h; rest = refl }

  module _ {begin r : ℕ} {out : List ℕ} (l : Lines numbers order ends before begin r out) where
    -- The next ring has a side, and it ends in the list.
    pub next_ring : r < length ends → let e = get_or ends r 0 in (begin < e) × (e ≤ length order) × Rising e (drop (suc r) ends) (length order)
    next_ring h = rw (drop-cons ends r 0 h) at l.rising

    pub lines_more : (p : List ℕ) {to : ℕ} → to ≡ room_of begin r → r < length ends → p ≡ sets out to (line_of numbers (take (get_or ends r 0 - begin) (drop begin order)))
        → Lines numbers order ends before (get_or ends r 0) (r + 1) p
    unfolding flat_map
    lines_more p w h q =
        let f = rw w at q in
        let e = get_or ends r 0 in
        let ring = take (e - begin) (drop begin order) in
        let (g, k, rise) = next_ring h in
        let size = part_length order begin e (omega arith) k in
        record {
          within = omega arith;
          near = k;
          long = ap length f ∙ length-sets out (room_of begin r) (line_of numbers ring) ∙ l.long;
          rising = rw add-one rise;
          rest = rw add-one
              (put_more out (line_of numbers ring) (flat_map (line_of numbers) (rings_in e order (drop (suc r) ends))) (room_of begin r) (room_of e (suc r)) (omega (arith, ring_bytes numbers ring (omega (arith, size)), size)) f
              (rw (drop-cons ends r 0 h) at l.rest));
        }

    pub lines_all : length ends ≤ r → out ≡ sets before 9 (flat_map (line_of numbers) (rings_in 0 order ends))
    unfolding flat_map
    lines_all h = rw (drop_of_length-le ends {i = r} h) at l.rest

-- The header and the lines one behind the other are the whole.
pub whole_put : (numbers order ends o : List ℕ) {p q : List ℕ} → p ≡ sets o 0 (headed multi_line_string (length ends)) → q ≡ sets p 9 (flat_map (line_of numbers) (rings_in 0 order ends))
    → q ≡ sets o 0 (line_bytes (map (line_held numbers) (rings_in 0 order ends)))
whole_put numbers order ends o {p} e f =
    let rs = rings_in 0 order ends in
    let ls = map (line_held numbers) rs in
    f
    ∙ put_more o (headed multi_line_string (length ends)) (flat_map (line_of numbers) rs) 0 9 (omega (arith, headed_nine multi_line_string (length ends))) e refl
    ∙ ap₂ (λ n m. sets o 0 (headed multi_line_string n ++ m)) (sym (length-map ls (map pair_of) ∙ length-map rs (line_held numbers) ∙ rings_many 0 order ends)) (sym (lines_are numbers rs))
