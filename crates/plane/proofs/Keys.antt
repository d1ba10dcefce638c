-- Corners as numbers: different numbers are different points, the order of the numbers is the order along every edge that goes up in
-- it, and which pairs of numbers are pieces of an edge.
-- The idea: a point strictly between is a proper part of the way (Between), so each coordinate goes the edge's way or stays; a pair
-- with no corner inside is a piece exactly if it begins and ends at an end of the edge or at a corner strictly between. Assumes nothing.
use mathlib.Core.Path.{◌≡◌, refl, sym, ◌∙◌, ap, ap₂, subst}
use mathlib.Core.Logic.{◌↔◌, ◌⊎◌, inl, inr}
use mathlib.Core.Bool.{Bool, true, false, not, ◌&&◌, ◌||◌}
use mathlib.Core.List.{List, [], ◌∷◌}
use Prim.Native.Nat.{ℕ, ◌+◌, ◌*◌, ◌/◌, ◌%◌, ◌^◌, ◌≤◌, ◌<◌}
use native.Mathlib.Omega.{arith}
use native.Mathlib.Nat.{mod-lt}
use lib.Dec.{T, eqb, eqb→eq, eqb_refl, ltb, ltb→lt, lt→ltb, nltb→le, lit<}
use lib.IntN.{ℤ, pos, ◌+ℤ◌, ◌-ℤ◌, ◌*ℤ◌}
use lib.Pow.{split}
use lib.Signed.{◌<ℤ◌, lt_z_yes, <ℤ-≤ℤ_trans}
use Rattle.whole.specs.Sums.{Among, any, bit, count}
use Rattle.whole.specs.Polynomials.{con, ◌:+◌, ◌:-◌, ◌:*◌, ◌:=◌}
use Rattle.whole.proofs.Int.{*-pos, unscale, unscale_zero, gap_pos, lt_le, Order, less, equal, more, order}
use Rattle.whole.proofs.Ring.{solve, difference}
use Rattle.whole.proofs.Sums.{and_left, and_right, and_both, count-++, counted}
use Rattle.plane.specs.Points.{Point, Edge, ◌⟶◌, same_point, same_edge, between}
use Rattle.plane.specs.Cuts.{pieces}
use Rattle.plane.specs.Corners.{millimetres}
use Rattle.plane.specs.Keys.{corner_of, point_at, pair}
use Rattle.plane.proofs.Points.{same_point-eq, same_point-refl, same_edge-eq, same_edge-refl}
use Rattle.plane.proofs.Corners.{corner_same}
use Rattle.plane.proofs.Between.{Inside, between_means}
use Rattle.plane.proofs.Line.{along, long, equal_on}
use Rattle.plane.proofs.Cuts.{Clear}
use Rattle.plane.proofs.Ways.{Stop, Part, inside_on, first_inside, second_inside, pieces_parts, split_pieces, first_counted, piece_once}

-- ---- numbers and points
-- A number is made of its two parts.
parts_same : (u v : ℕ) → u / 2 ^ 32 ≡ v / 2 ^ 32 → u % 2 ^ 32 ≡ v % 2 ^ 32 → u ≡ v
parts_same u v p q = sym (split u 32) ∙ ap₂ (λ m n. m * 2 ^ 32 + n) p q ∙ split v 32

-- Equal points, equal numbers.
pub point_at-injective : (u v : ℕ) → point_at u ≡ point_at v → u ≡ v
unfolding point_at
point_at-injective u v e =
    let t : T (eqb (u / 2 ^ 32) (v / 2 ^ 32) && eqb (u % 2 ^ 32) (v % 2 ^ 32)) =
    subst T (sym (corner_same (corner_of u) (corner_of v))) (subst (λ z. T (same_point (point_at u) z)) e (same_point-refl (point_at u))) in
    parts_same u v
    (eqb→eq (u / 2 ^ 32) (v / 2 ^ 32) (and_left (eqb (u / 2 ^ 32) (v / 2 ^ 32)) (eqb (u % 2 ^ 32) (v % 2 ^ 32)) t))
    (eqb→eq (u % 2 ^ 32) (v % 2 ^ 32) (and_right (eqb (u / 2 ^ 32) (v / 2 ^ 32)) (eqb (u % 2 ^ 32) (v % 2 ^ 32)) t))

below : (u : ℕ) → u % 2 ^ 32 < 2 ^ 32
below u = mod-lt u (lit< tt)

-- The order of the numbers is that of their first parts, then of their second.
lexical : (u v : ℕ) → u < v → (u / 2 ^ 32 < v / 2 ^ 32) ⊎ ((u / 2 ^ 32 ≡ v / 2 ^ 32) × (u % 2 ^ 32 < v % 2 ^ 32))
lexical u v h = go (ltb (u / 2 ^ 32) (v / 2 ^ 32)) refl
  where
    go : (b : Bool) → ltb (u / 2 ^ 32) (v / 2 ^ 32) ≡ b → (u / 2 ^ 32 < v / 2 ^ 32) ⊎ ((u / 2 ^ 32 ≡ v / 2 ^ 32) × (u % 2 ^ 32 < v % 2 ^ 32))
    go true e = inl (ltb→lt (u / 2 ^ 32) (v / 2 ^ 32) (subst T (sym e) tt))
    go false e =
        let k : v / 2 ^ 32 ≤ u / 2 ^ 32 = nltb→le (u / 2 ^ 32) (v / 2 ^ 32) (subst (λ b. T (not b)) (sym e) tt) in
        let q : u / 2 ^ 32 ≡ v / 2 ^ 32 = omega (arith, split u 32, split v 32, below u, below v) in
        inr (q, omega (arith, split u 32, split v 32))

lexical_first : (u v : ℕ) → u / 2 ^ 32 < v / 2 ^ 32 → u < v
lexical_first u v h = omega (arith, split u 32, split v 32, below u)

lexical_second : (u v : ℕ) → u / 2 ^ 32 ≡ v / 2 ^ 32 → u % 2 ^ 32 < v % 2 ^ 32 → u < v
lexical_second u v e h = omega (arith, split u 32, split v 32)

-- What was added to each coordinate changes neither order nor equality.
shifted : (z w o : ℤ) → w -ℤ z ≡ (w -ℤ o) -ℤ (z -ℤ o)
shifted = solve 3 (λ z w o. w :- z := (w :- o) :- (z :- o)) tt

millimetres_order : (m n : ℕ) → (m < n → millimetres m <ℤ millimetres n) × (millimetres m <ℤ millimetres n → m < n)
millimetres_order m n = (
  λ h. (gap_pos (millimetres m) (millimetres n)).1 (subst (λ z. pos 0 <ℤ z) (shifted (pos m) (pos n) (pos 10_000_000)) ((gap_pos (pos m) (pos n)).0 (lt_z_yes (lt→ltb m n h)))),
  λ h. ltb→lt m n ((gap_pos (pos m) (pos n)).1 (subst (λ z. pos 0 <ℤ z) (sym (shifted (pos m) (pos n) (pos 10_000_000))) ((gap_pos (millimetres m) (millimetres n)).0 h))).lt,
)

pub millimetres_same : (m n : ℕ) → millimetres m ≡ millimetres n → m ≡ n
millimetres_same m n e = cc (sym (again m) ∙ ap (λ z. z +ℤ pos 10_000_000) e ∙ again n)
  where
    again : (k : ℕ) → millimetres k +ℤ pos 10_000_000 ≡ pos k
    again k = solve 2 (λ k o. (k :- o) :+ o := k) tt (pos k) (pos 10_000_000)

-- A coordinate of a proper part of the way: strictly between the two where they differ, and theirs where they are equal.
share_between : (m n p c q : ℤ) → pos 0 <ℤ m → m <ℤ n → n *ℤ (c -ℤ p) ≡ m *ℤ (q -ℤ p) → p <ℤ q → (p <ℤ c) × (c <ℤ q)
share_between m n p c q h k e l =
    let d = (gap_pos p q).0 l in
    let w : pos 0 <ℤ n = <ℤ-≤ℤ_trans h (lt_le m n k) in (
      (gap_pos p c).1 (unscale n (c -ℤ p) w (subst (λ z. pos 0 <ℤ z) (sym e) (*-pos m (q -ℤ p) h d))),
      (gap_pos c q).1 (unscale n (q -ℤ c) w (subst (λ z. pos 0 <ℤ z) (sym (rest e)) (*-pos (n -ℤ m) (q -ℤ p) ((gap_pos m n).0 k) d))),
    )
  where
    rest : n *ℤ (c -ℤ p) ≡ m *ℤ (q -ℤ p) → n *ℤ (q -ℤ c) ≡ (n -ℤ m) *ℤ (q -ℤ p)
    rest e = solve 4 (λ n p c q. n :* (q :- c) := n :* (q :- p) :- n :* (c :- p)) tt n p c q ∙ ap (λ z. n *ℤ (q -ℤ p) -ℤ z) e ∙ solve 3 (λ m n d. n :* d :- m :* d := (n :- m) :* d) tt m n (q -ℤ p)

share_none : (m n p c q : ℤ) → pos 0 <ℤ m → m <ℤ n → n *ℤ (c -ℤ p) ≡ m *ℤ (q -ℤ p) → p ≡ q → c ≡ p
share_none m n p c q h k e l = difference c p (unscale_zero n (c -ℤ p) (<ℤ-≤ℤ_trans h (lt_le m n k)) (e ∙ subst (λ z. m *ℤ (z -ℤ p) ≡ pos 0) l (solve 2 (λ m p. m :* (p :- p) := con (pos 0)) tt m p)))

-- What is strictly between two corners is strictly between their numbers.
pub between_order : (c u v : ℕ) → u < v → T (between (point_at c) (pair u v)) → (u < c) × (c < v)
unfolding point_at
between_order c u v h t = go (lexical u v h)
  where
    i : Inside (point_at c) (pair u v)
    i = ((between_means (point_at c) (pair u v)).0 t).1

    share : (k l m : ℕ) → i.n *ℤ (millimetres l -ℤ millimetres k) ≡ i.m *ℤ (millimetres m -ℤ millimetres k) → k < m → (k < l) × (l < m)
    share k l m e h =
        let s = share_between i.m i.n (millimetres k) (millimetres l) (millimetres m) i.some i.rest e ((millimetres_order k m).0 h) in
        ((millimetres_order k l).1 s.0, (millimetres_order l m).1 s.1)

    level : u / 2 ^ 32 ≡ v / 2 ^ 32 → c / 2 ^ 32 ≡ u / 2 ^ 32
    level e = millimetres_same (c / 2 ^ 32) (u / 2 ^ 32)
        (share_none i.m i.n (millimetres (u / 2 ^ 32)) (millimetres (c / 2 ^ 32)) (millimetres (v / 2 ^ 32)) i.some i.rest i.across (ap millimetres e))

    go : (u / 2 ^ 32 < v / 2 ^ 32) ⊎ ((u / 2 ^ 32 ≡ v / 2 ^ 32) × (u % 2 ^ 32 < v % 2 ^ 32)) → (u < c) × (c < v)
    go (inl k) = let s = share (u / 2 ^ 32) (c / 2 ^ 32) (v / 2 ^ 32) i.across k in (lexical_first u c s.0, lexical_first c v s.1)
    go (inr k) =
        let s = share (u % 2 ^ 32) (c % 2 ^ 32) (v % 2 ^ 32) i.upward k.1 in
        (lexical_second u c (sym (level k.0)) s.0, lexical_second c v (level k.0 ∙ k.0) s.1)

-- ---- is a corner, as a test and as a statement
pub any_among : (c : Point) (cs : List Point) → T (any (same_point c) cs) ↔ Among same_point c cs
any_among c [] = (λ t. absurd t, λ h. absurd (omega arith))
any_among c (d ∷ cs) = go (same_point c d) (same_point d c) (turned c d) (turned d c) (any_among c cs)
  where
    turned : (p q : Point) → T (same_point p q) → T (same_point q p)
    turned p q t = subst (λ z. T (same_point z p)) (same_point-eq p q t) (same_point-refl p)

    go : (b k : Bool) → (T b → T k) → (T k → T b) → (T (any (same_point c) cs) ↔ Among same_point c cs) → T (elim b [ true ↦ true | false ↦ any (same_point c) cs ]) ↔ (1 ≤ bit k + count same_point c cs)
    go true true f g r = (λ t. omega arith, λ h. tt)
    go true false f g r = absurd (f tt)
    go false true f g r = absurd (g tt)
    go false false f g r = (λ t. omega (arith, r.0 t), λ h. r.1 (omega arith))

-- The corner numbered a is the one numbered w, or one of the list strictly between the ends of the edge.
abbrev pub stops_at : List Point → Edge → ℕ → ℕ → Bool
stops_at cs e w a = eqb a w || (any (same_point (point_at a)) cs && between (point_at a) e)

-- The test for it says so.
pub stops_at-is : (cs : List Point) (e : Edge) (w a : ℕ) → T (stops_at cs e w a) ↔ Stop cs e (point_at w) (point_at a)
stops_at-is cs e w a = (to (eqb a w) refl, from)
  where
    to : (b : Bool) → eqb a w ≡ b → T (b || (any (same_point (point_at a)) cs && between (point_at a) e)) → Stop cs e (point_at w) (point_at a)
    to true q t = inl (ap point_at (eqb→eq a w (subst T (sym q) tt)))
    to false q t =
        inr ((any_among (point_at a) cs).0 (and_left (any (same_point (point_at a)) cs) (between (point_at a) e) t), and_right (any (same_point (point_at a)) cs) (between (point_at a) e) t)

    or_left : (b c : Bool) → T b → T (b || c)
    or_left true c t = tt
    or_left false c t = absurd t

    or_right : (b c : Bool) → T c → T (b || c)
    or_right true c t = tt
    or_right false c t = t

    from : Stop cs e (point_at w) (point_at a) → T (stops_at cs e w a)
    from (inl q) = or_left (eqb a w) (any (same_point (point_at a)) cs && between (point_at a) e) (subst (λ z. T (eqb a z)) (point_at-injective a w q) (eqb_refl a))
    from (inr s) = or_right (eqb a w) (any (same_point (point_at a)) cs && between (point_at a) e) (and_both (any (same_point (point_at a)) cs) (between (point_at a) e) ((any_among (point_at a) cs).1 s.0) s.1)

-- ---- the pieces of an edge that goes up
module _ (cs : List Point) (u v : ℕ) (up : u < v) where
  abbrev e : Edge
  e = pair u v

  length : pos 0 <ℤ along e e.to
  length = long e (λ q. absurd (omega (arith, point_at-injective u v q)))

  -- Between the ends the numbers go up as the points go along.
  along_up : (a b : ℕ) → T (between (point_at a) e) → T (between (point_at b) e) → along e (point_at a) <ℤ along e (point_at b) → a < b
  along_up a b s t h = (between_order a u b (between_order b u v up t).0 (first_inside e length (point_at a) (point_at b) s t h)).1

  up_along : (a b : ℕ) → T (between (point_at a) e) → T (between (point_at b) e) → a < b → along e (point_at a) <ℤ along e (point_at b)
  up_along a b s t h = go (order (along e (point_at a)) (along e (point_at b)))
    where
      go : Order (along e (point_at a)) (along e (point_at b)) → along e (point_at a) <ℤ along e (point_at b)
      go (less k) = k
      go (equal k) = absurd (omega (arith, point_at-injective a b (equal_on e length (point_at a) (point_at b) (inside_on e length (point_at a) s) (inside_on e length (point_at b) t) k)))
      go (more k) = absurd (omega (arith, along_up b a t s k))

  -- A part of the edge goes up.
  part_up : (a b : ℕ) → Part cs e (pair a b) → a < b
  part_up a b p = go p.begins p.ends p.forward
    where
      go : Stop cs e (point_at u) (point_at a) → Stop cs e (point_at v) (point_at b) → along e (point_at a) <ℤ along e (point_at b) → a < b
      go (inl q) (inl r) h = omega (arith, point_at-injective a u q, point_at-injective b v r)
      go (inl q) (inr t) h = omega (arith, point_at-injective a u q, (between_order b u v up t.1).0)
      go (inr s) (inl r) h = omega (arith, point_at-injective b v r, (between_order a u v up s.1).1)
      go (inr s) (inr t) h = along_up a b s.1 t.1 h

  in_pieces : (p : Edge) → Among same_edge p (pieces cs e) → Part cs e p
  in_pieces p h = counted same_edge same_edge-eq same_edge-refl (Part cs e) p (pieces cs e) h (pieces_parts cs e)

  -- A pair from a stop to a later one with no corner inside is a piece.
  clear_piece : (a b : ℕ) → a < b → Clear cs (pair a b) → Stop cs e (point_at u) (point_at a) → Stop cs e (point_at v) (point_at b) → Among same_edge (pair a b) (pieces cs e)
  clear_piece a b h c s t = go s t
    where
      apart : point_at a ≡ point_at b → ⊥
      apart q = omega (arith, point_at-injective a b q)

      ahead : Among same_point (point_at a) cs × T (between (point_at a) e) → Stop cs e (point_at v) (point_at b) → Stop cs (pair a v) (point_at v) (point_at b)
      ahead s (inl r) = inl r
      ahead s (inr t) = inr (t.0, second_inside e length (point_at a) (point_at b) s.1 t.1 (up_along a b s.1 t.1 h))

      go : Stop cs e (point_at u) (point_at a) → Stop cs e (point_at v) (point_at b) → Among same_edge (pair a b) (pieces cs e)
      go (inl q) t = subst (λ z. Among same_edge (pair a b) (pieces cs (z ⟶ point_at v))) q
          (first_counted cs (point_at a) (point_at b) (point_at v) apart c (subst (λ z. Stop cs (z ⟶ point_at v) (point_at v) (point_at b)) (sym q) t))
      go (inr s) t = rw (split_pieces cs (point_at u) (point_at a) (point_at v) s.0 s.1) (omega (
        arith,
        count-++ same_edge same_edge-eq same_edge-refl (pair a b) (pieces cs (pair u a)) (pieces cs (pair a v)),
        first_counted cs (point_at a) (point_at b) (point_at v) apart c (ahead s t),
      ))

-- What is counted at most once, and exactly if a test is passed, is counted as the test says.
count_bit : (n : ℕ) (t : Bool) → n ≤ 1 → (1 ≤ n → T t) → (T t → 1 ≤ n) → n ≡ bit t
count_bit n true h f g = omega (arith, g tt)
count_bit n false h f g = omega (arith, f)

-- A pair that goes up, with no corner inside, is a piece of an edge that goes up exactly if it begins at the edge's first point or at
-- a corner strictly between its ends, and ends at its last or at such a corner.
pub piece_count : (cs : List Point) (a b u v : ℕ) → u < v → a < b → Clear cs (pair a b)
    → count same_edge (pair a b) (pieces cs (pair u v)) ≡ bit (stops_at cs (pair u v) u a && stops_at cs (pair u v) v b)
piece_count cs a b u v up h c = count_bit (count same_edge (pair a b) (pieces cs (pair u v))) (begins && ends) (piece_once cs (pair a b) (pair u v))
    (λ k. let p = in_pieces cs u v up (pair a b) k in and_both begins ends ((stops_at-is cs (pair u v) u a).1 p.begins) ((stops_at-is cs (pair u v) v b).1 p.ends))
    (λ t. clear_piece cs u v up a b h c ((stops_at-is cs (pair u v) u a).0 (and_left begins ends t)) ((stops_at-is cs (pair u v) v b).0 (and_right begins ends t)))
  where
    begins : Bool
    begins = stops_at cs (pair u v) u a

    ends : Bool
    ends = stops_at cs (pair u v) v b

-- A pair that goes down is no piece of an edge that goes up.
pub piece_wrong_way : (cs : List Point) (a b u v : ℕ) → u < v → a < b → count same_edge (pair b a) (pieces cs (pair u v)) ≡ 0
piece_wrong_way cs a b u v up h = count_bit (count same_edge (pair b a) (pieces cs (pair u v))) false (piece_once cs (pair b a) (pair u v))
    (λ k. absurd (omega (arith, part_up cs u v up b a (in_pieces cs u v up (pair b a) k)))) (λ t. absurd t)
