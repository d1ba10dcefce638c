-- Which pairs the pieces of an edge on a line are, and the running sum by the corners' places. The idea: a piece of an edge from corner to corner begins and
-- ends at corners of the edge's line, with none between; a corner stands before another in number exactly if it does in place. Assumes nothing.
use mathlib.Core.Path.{◌≡◌, refl, sym, ◌∙◌, ap, ap₂, subst}
use mathlib.Core.Logic.{◌⊎◌, inl, inr}
use mathlib.Core.Bool.{Bool, true, false, ◌&&◌}
use mathlib.Core.List.{List, [], ◌∷◌}
use Prim.Native.Nat.{ℕ, zero, suc, ◌+◌, ◌≤◌, ◌<◌}
use native.Mathlib.Omega.{arith}
use native.Mathlib.Decide.{dec_le, ℕ_discrete}
use borrow.Author.Tests.{ltb-true, ltb-false, lt-ltb, le-ltb, eqb-true, eqb-false}
use lib.Dec.{T, eqb, ltb}
use lib.IntN.{pos, ◌-ℤ◌}
use lib.ListN.{length, get_or, take}
use lib.Signed.{◌<ℤ◌, <ℤ_irrefl}
use Rattle.whole.specs.Sums.{All, Among, bit, count}
use Rattle.whole.proofs.Sums.{and_left, and_right, all_map, bit_small, bit_yes, counted}
use Rattle.plane.specs.Points.{Point, Edge, ◌⟶◌, flip, same_point, same_edge}
use Rattle.plane.specs.Cuts.{pieces, all_pieces}
use Rattle.plane.specs.Boundaries.{boundary}
use Rattle.plane.specs.Keys.{point_at, pair, pairs, points_at}
use Rattle.plane.proofs.Points.{same_point-eq, same_point-refl, same_edge-eq, same_edge-refl}
use Rattle.plane.proofs.Line.{along, On, on_from, on_to, long}
use Rattle.plane.proofs.Cuts.{Clear, pieces_cut, no_length}
use Rattle.plane.proofs.Ways.{Stop, Part, inside_on, pieces_parts, pieces_flip}
use Rattle.plane.proofs.Keys.{point_at-injective, piece_wrong_way}
use Rattle.whole_order.specs.Ascending.{Ascending, IsIn, place_of}
use Rattle.whole_order.proofs.Ascending.{ascending_below, place_found, place_below}
use Rattle.table_lines.specs.Lines.{lies, lie, total, begun, ended, Follow, begins_at, ends_at, begun_by, ended_by}
use Rattle.table_lines.proofs.Lines.{lies_on, on_lies, one_line, line_boundary, line_law}

-- ---- corners as numbers and as points
pub among_corner : (corners : List ℕ) (c : Point) → Among same_point c (points_at corners) → (u : ℕ) × IsIn u corners × (c ≡ point_at u)
among_corner [] c h = absurd (omega arith)
among_corner (x ∷ l) c h = go (same_point (point_at x) c) (same_point-eq (point_at x) c) (among_corner l c) h
  where
    go : (b : Bool) → (T b → point_at x ≡ c) → (1 ≤ count same_point c (points_at l) → (u : ℕ) × IsIn u l × (c ≡ point_at u)) → 1 ≤ bit b + count same_point c (points_at l)
        → (u : ℕ) × IsIn u (x ∷ l) × (c ≡ point_at u)
    go true e r h = (x, (0, omega arith, refl), sym (e tt))
    go false e r h = let w = r (omega arith) in (w.0, (suc w.1.0, omega (arith, w.1.1), w.1.2), w.2)

corner_at : (corners : List ℕ) (j : ℕ) → j < length corners → Among same_point (point_at (get_or corners j 0)) (points_at corners)
corner_at [] j h = absurd (omega arith)
corner_at (x ∷ l) zero h = omega (arith, bit_yes (same_point (point_at x) (point_at x)) (same_point-refl (point_at x)))
corner_at (x ∷ l) (suc j) h = omega (arith, corner_at l j (omega arith))

pub stands_corner : (corners : List ℕ) (u : ℕ) → IsIn u corners → Among same_point (point_at u) (points_at corners)
stands_corner corners u s = subst (λ z. Among same_point (point_at z) (points_at corners)) s.2 (corner_at corners s.0 s.1)

pub all_corners : (corners l : List ℕ) → All (λ u. IsIn u corners) l → All (λ u. Among same_point (point_at u) (points_at corners)) l
all_corners corners l h = all_map (λ u. IsIn u corners) (λ u. Among same_point (point_at u) (points_at corners)) (stands_corner corners) l h

-- ---- the pieces of an edge on the line are pairs of corners that follow one another there
module _ (corners : List ℕ) (a b : ℕ) (apart : a ≡ b → ⊥) where
  abbrev cs : List Point
  cs = points_at corners

  -- The pair is two corners that follow one another, or they the other way round.
  abbrev pub Following : Edge → Type 0
  Following e = (u : ℕ) × (v : ℕ) × Follow corners a b u v × ((e ≡ pair u v) ⊎ (e ≡ pair v u))

  stop_corner : (e : Edge) (w : ℕ) (c : Point) → IsIn w corners → Stop cs e (point_at w) c → (u : ℕ) × IsIn u corners × (c ≡ point_at u)
  stop_corner e w c s (inl q) = (w, s, q)
  stop_corner e w c s (inr k) = among_corner corners c k.0

  stop_on : (e : Edge) → (e.from ≡ e.to → ⊥) → (w c : Point) → On e w → Stop cs e w c → On e c
  stop_on e n w c h (inl q) = subst (On e) (sym q) h
  stop_on e n w c h (inr s) = inside_on e (long e n) c s.1

  follows_up : (p q : ℕ) → p < q → T (lies a b p) → T (lies a b q) → IsIn p corners → IsIn q corners → (e : Edge) → Among same_edge e (pieces cs (pair p q)) → (u : ℕ) × (v : ℕ) × Follow corners a b u v × (e ≡ pair u v)
  follows_up p q h on_p on_q sp sq e m =
      let d = pair p q in
      let n : d.from ≡ d.to → ⊥ = λ r. let z = point_at-injective p q r in omega arith in
      let k : Part cs d e = counted same_edge same_edge-eq same_edge-refl (Part cs d) e (pieces cs d) m (pieces_parts cs d) in
      let c : Clear cs e = counted same_edge same_edge-eq same_edge-refl (Clear cs) e (pieces cs d) m (pieces_cut cs d).clear in
      let x = stop_corner d p e.from sp k.begins in
      let y = stop_corner d q e.to sq k.ends in
      let is : e ≡ pair x.0 y.0 = λ i. x.2 i ⟶ y.2 i in
      let on : (w : ℕ) → On d (point_at w) → T (lies a b w) = λ w o. on_lies a b w (one_line (pair a b) (λ r. apart (point_at-injective a b r)) (point_at p) (point_at q) (point_at w) n (lies_on a b p on_p) (lies_on a b q on_q) o) in
      let differ : x.0 ≡ y.0 → ⊥ = λ r. <ℤ_irrefl (subst (λ z. along d z <ℤ along d e.to) (x.2 ∙ ap point_at r ∙ sym y.2) k.forward) in (
        x.0,
        y.0,
        record {
          goes_up = above x.0 y.0 is differ;
          from_stands = x.1;
          to_stands = y.1;
          from_on = on x.0 (subst (On d) x.2 (stop_on d n d.from e.from (on_from d) k.begins));
          to_on = on y.0 (subst (On d) y.2 (stop_on d n d.to e.to (on_to d) k.ends));
          clear = subst (Clear cs) is c;
        },
        is,
      )
    where
      above : (u v : ℕ) → e ≡ pair u v → (u ≡ v → ⊥) → u < v
      above u v r n = go (dec_le u v)
        where
          go : Dec (u ≤ v) → u < v
          go (yes l) = omega (arith, n)
          go (no l) = absurd (omega (arith, piece_wrong_way cs v u p q h (omega arith), subst (λ z. 1 ≤ count same_edge z (pieces cs (pair p q))) r m))

  pub follows : (p q : ℕ) → T (lie a b p q) → IsIn p corners → IsIn q corners → (e : Edge) → Among same_edge e (pieces cs (pair p q)) → Following e
  follows p q on sp sq e m = go (ltb p q) refl (ltb q p) refl
    where
      on_p : T (lies a b p)
      on_p = and_left (lies a b p) (lies a b q) on

      on_q : T (lies a b q)
      on_q = and_right (lies a b p) (lies a b q) on

      go : (s : Bool) → ltb p q ≡ s → (t : Bool) → ltb q p ≡ t → Following e
      go true h t k = let w = follows_up p q (ltb-true p q h) on_p on_q sp sq e m in (w.0, w.1, w.2, inl w.3)
      go false h true k = let w = follows_up q p (ltb-true q p k) on_q on_p sq sp (flip e) (omega (arith, pieces_flip cs (pair q p) e)) in (w.0, w.1, w.2, inr (ap flip w.3))
      go false h false k = let same : p ≡ q = omega (arith, ltb-false p q h, ltb-false q p k) in
          absurd (omega (arith, ap (count same_edge e) (no_length cs (point_at p)), subst (λ z. 1 ≤ count same_edge e (pieces cs (pair p z))) (sym same) m))

-- ---- sums over edges
-- Sums of numbers that are equal one by one are equal; the sum of sums.
pub total_same : (P Q : ℕ → Type 0) (f g : ℕ → ℕ → ℕ) → ((p q : ℕ) → P p → Q q → f p q ≡ g p q) → (k l : List ℕ) → All P k → All Q l → total f k l ≡ total g k l
total_same P Q f g e [] l h j = refl
total_same P Q f g e (p ∷ k) [] h j = refl
total_same P Q f g e (p ∷ k) (q ∷ l) h j = omega (arith, e p q h.0 j.0, total_same P Q f g e k l h.1 j.1)

pub total_sum : (f g h : ℕ → ℕ → ℕ) → ((p q : ℕ) → f p q ≡ g p q + h p q) → (k l : List ℕ) → total f k l ≡ total g k l + total h k l
total_sum f g h e [] l = refl
total_sum f g h e (p ∷ k) [] = refl
total_sum f g h e (p ∷ k) (q ∷ l) = omega (arith, e p q, total_sum f g h e k l)

pub total_few : (f : ℕ → ℕ → ℕ) → ((p q : ℕ) → f p q ≤ 1) → (k l : List ℕ) → total f k l ≤ length k
total_few f e [] l = omega arith
total_few f e (p ∷ k) [] = omega arith
total_few f e (p ∷ k) (q ∷ l) = omega (arith, e p q, total_few f e k l)

pub total_none : (f : ℕ → ℕ → ℕ) → ((p q : ℕ) → f p q ≡ 0) → (k l : List ℕ) → total f k l ≡ 0
total_none f e [] l = refl
total_none f e (p ∷ k) [] = refl
total_none f e (p ∷ k) (q ∷ l) = omega (arith, e p q, total_none f e k l)

-- One edge more.
pub total_more : (f : ℕ → ℕ → ℕ) (k l : List ℕ) (j : ℕ) → j < length k → j < length l → total f (take (suc j) k) (take (suc j) l) ≡ total f (take j k) (take j l) + f (get_or k j 0) (get_or l j 0)
total_more f [] l j h g = absurd (omega arith)
total_more f (p ∷ k) [] j h g = absurd (omega arith)
total_more f (p ∷ k) (q ∷ l) zero h g = omega arith
total_more f (p ∷ k) (q ∷ l) (suc j) h g = omega (arith, total_more f k l j (omega arith) (omega arith))

-- The sum over edges of which none counts.
pub total_first : (f : ℕ → ℕ → ℕ) (k l : List ℕ) (i : ℕ) → i ≤ length k → i ≤ length l → ((j : ℕ) → j < i → f (get_or k j 0) (get_or l j 0) ≡ 0) → total f (take i k) (take i l) ≡ 0
total_first f k l zero h g z = refl
total_first f k l (suc i) h g z = omega (arith, total_more f k l i (omega arith) (omega arith), total_first f k l i (omega arith) (omega arith) (λ j m. z j (omega arith)), z i (omega arith))

pub total_at : (f g : ℕ → ℕ → ℕ) (k l : List ℕ) → length l ≡ length k → ((i : ℕ) → i < length k → f (get_or k i 0) (get_or l i 0) ≡ g (get_or k i 0) (get_or l i 0)) → total f k l ≡ total g k l
total_at f g [] l n h = refl
total_at f g (p ∷ k) [] n h = refl
total_at f g (p ∷ k) (q ∷ l) n h = omega (arith, h 0 (omega arith), total_at f g k l (omega arith) (λ i j. h (suc i) (omega arith)))

-- ---- the running sum
-- One place more.
one_more : (on : Bool) (i k : ℕ) → bit (on && ltb i (suc k)) ≡ bit (on && ltb i k) + bit (on && eqb i k)
one_more false i k = refl
one_more true i k = go (ltb i (suc k)) refl (ltb i k) refl (eqb i k) refl
  where
    go : (x : Bool) → ltb i (suc k) ≡ x → (y : Bool) → ltb i k ≡ y → (z : Bool) → eqb i k ≡ z → bit x ≡ bit y + bit z
    go true h true g true e = absurd (omega (arith, ltb-true i k g, eqb-true i k e))
    go true h true g false e = refl
    go true h false g true e = refl
    go true h false g false e = absurd (let n = eqb-false i k e in omega (arith, ltb-true i (suc k) h, ltb-false i k g))
    go false h true g z e = absurd (omega (arith, ltb-false i (suc k) h, ltb-true i k g))
    go false h false g true e = absurd (omega (arith, ltb-false i (suc k) h, eqb-true i k e))
    go false h false g false e = refl

module _ (corners : List ℕ) (a b : ℕ) (from to : List ℕ) where
  pub begun_more : (k : ℕ) → begun_by corners a b from to (suc k) ≡ begun_by corners a b from to k + begins_at corners a b from to k
  begun_more k = total_sum (λ p q. bit (lie a b p q && ltb (place_of p corners) (suc k))) (λ p q. bit (lie a b p q && ltb (place_of p corners) k)) (λ p q. bit (lie a b p q && eqb (place_of p corners) k))
      (λ p q. one_more (lie a b p q) (place_of p corners) k) from to

  pub ended_more : (k : ℕ) → ended_by corners a b from to (suc k) ≡ ended_by corners a b from to k + ends_at corners a b from to k
  ended_more k = total_sum (λ p q. bit (lie a b p q && ltb (place_of q corners) (suc k))) (λ p q. bit (lie a b p q && ltb (place_of q corners) k)) (λ p q. bit (lie a b p q && eqb (place_of q corners) k))
      (λ p q. one_more (lie a b p q) (place_of q corners) k) from to

  none_yet : (on : Bool) (i : ℕ) → bit (on && ltb i 0) ≡ 0
  none_yet true i = ap bit (le-ltb i 0 (omega arith))
  none_yet false i = refl

  pub begun_none : begun_by corners a b from to 0 ≡ 0
  begun_none = total_none (λ p q. bit (lie a b p q && ltb (place_of p corners) 0)) (λ p q. none_yet (lie a b p q) (place_of p corners)) from to

  pub ended_none : ended_by corners a b from to 0 ≡ 0
  ended_none = total_none (λ p q. bit (lie a b p q && ltb (place_of q corners) 0)) (λ p q. none_yet (lie a b p q) (place_of q corners)) from to

  pub begun_few : (k : ℕ) → begun_by corners a b from to k ≤ length from
  begun_few k = total_few (λ p q. bit (lie a b p q && ltb (place_of p corners) k)) (λ p q. bit_small (lie a b p q && ltb (place_of p corners) k)) from to

  pub ended_few : (k : ℕ) → ended_by corners a b from to k ≤ length from
  ended_few k = total_few (λ p q. bit (lie a b p q && ltb (place_of q corners) k)) (λ p q. bit_small (lie a b p q && ltb (place_of q corners) k)) from to

  module _ (order : Ascending corners) (from-corners : All (λ p. IsIn p corners) from) (to-corners : All (λ q. IsIn q corners) to) where
    -- Before a corner in number is before it in place.
    place_order : (p k : ℕ) → IsIn p corners → k < length corners → ltb p (get_or corners k 0) ≡ ltb (place_of p corners) k
    place_order p k s h = go (ltb (place_of p corners) k) refl
      where
        f : (place_of p corners < length corners) × (get_or corners (place_of p corners) 0 ≡ p)
        f = place_found corners p order s

        go : (x : Bool) → ltb (place_of p corners) k ≡ x → ltb p (get_or corners k 0) ≡ x
        go true e = lt-ltb p (get_or corners k 0) (omega (arith, ascending_below corners (place_of p corners) k order (ltb-true (place_of p corners) k e) h, f.1))
        go false e = le-ltb p (get_or corners k 0) (place_below_or (ℕ_discrete k (place_of p corners)))
          where
            place_below_or : Dec (k ≡ place_of p corners) → get_or corners k 0 ≤ p
            place_below_or (yes q) = let z = ap (λ i. get_or corners i 0) q in omega (arith, f.1)
            place_below_or (no n) = omega (arith, place_below corners p k order (omega (arith, ltb-false (place_of p corners) k e)))

    pub begun_by_lem : (k : ℕ) → k < length corners → begun a b (get_or corners k 0) from to ≡ begun_by corners a b from to k
    begun_by_lem k h = total_same (λ p. IsIn p corners) (λ q. IsIn q corners) (λ p q. bit (lie a b p q && ltb p (get_or corners k 0))) (λ p q. bit (lie a b p q && ltb (place_of p corners) k))
        (λ p q s t. ap (λ x. bit (lie a b p q && x)) (place_order p k s h)) from to from-corners to-corners

    pub ended_by_lem : (k : ℕ) → k < length corners → ended a b (get_or corners k 0) from to ≡ ended_by corners a b from to k
    ended_by_lem k h = total_same (λ p. IsIn p corners) (λ q. IsIn q corners) (λ p q. bit (lie a b p q && ltb q (get_or corners k 0))) (λ p q. bit (lie a b p q && ltb (place_of q corners) k))
        (λ p q s t. ap (λ x. bit (lie a b p q && x)) (place_order q k t h)) from to from-corners to-corners

    -- The net count of two corners that follow one another on the line, the second with place k, is the running sum there.
    module _ (apart : a ≡ b → ⊥) (u k : ℕ) (h : k < length corners) (f : Follow corners a b u (get_or corners k 0)) where
      pub running_law : count same_edge (pair u (get_or corners k 0)) (all_pieces (points_at corners) (pairs from to)) + ended_by corners a b from to k
          ≡ count same_edge (pair (get_or corners k 0) u) (all_pieces (points_at corners) (pairs from to)) + begun_by corners a b from to k
      running_law = omega (
        arith,
        line_law (points_at corners) a b apart u (get_or corners k 0) f.goes_up f.from_on f.to_on (stands_corner corners u f.from_stands) (stands_corner corners (get_or corners k 0) f.to_stands) f.clear
            from to (all_corners corners from from-corners) (all_corners corners to to-corners),
        begun_by_lem k h,
        ended_by_lem k h,
      )

      pub running_sum : boundary (all_pieces (points_at corners) (pairs from to)) (pair u (get_or corners k 0)) ≡ pos (begun_by corners a b from to k) -ℤ pos (ended_by corners a b from to k)
      running_sum =
          line_boundary (points_at corners) a b apart u (get_or corners k 0) f.goes_up f.from_on f.to_on (stands_corner corners u f.from_stands) (stands_corner corners (get_or corners k 0) f.to_stands) f.clear
          from to (all_corners corners from from-corners) (all_corners corners to to-corners)
          ∙ ap₂ (λ x y. pos x -ℤ pos y) (begun_by_lem k h) (ended_by_lem k h)
