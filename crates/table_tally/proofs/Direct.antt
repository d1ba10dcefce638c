-- Counting an edge at its side. The idea: one pair more changes the boundary at its own side by one, at the reverse of it by one the other way, and nowhere else, since no
-- side stands twice; a side of which it is noted that no corner is inside is its only piece. Assumes nothing.
use mathlib.Core.Path.{◌≡◌, refl, sym, ◌∙◌, ap, subst}
use mathlib.Core.Logic.{inl, inr}
use mathlib.Core.Bool.{Bool, true, false, cond, ◌||◌}
use mathlib.Core.List.{List, [], ◌∷◌, ◌++◌}
use Prim.Native.Nat.{ℕ, zero, suc, ◌+◌, ◌-◌, ◌≤◌, ◌<◌}
use native.Mathlib.Omega.{arith}
use native.Mathlib.Decide.{ℕ_discrete}
use borrow.Author.Tests.{eq-eqb, ne_eqb, ltb-true}
use lib.Dec.{T, eqb, eqb→eq}
use lib.ListN.{length, get_or, set, length-set}
use lib.Seq.{get_or-set_same, get_or-set_other}
use Rattle.whole.specs.Sums.{All, bit, count, Among}
use Rattle.whole.proofs.Sums.{all_at, all-++, bit_iff, bit_small, count-++}
use Rattle.plane.specs.Points.{Edge, flip, same_edge, between}
use Rattle.plane.specs.Cuts.{pieces}
use Rattle.plane.specs.Keys.{pair, point_at, points_at}
use Rattle.plane.proofs.Points.{same_edge-eq, same_edge-refl}
use Rattle.plane.proofs.Keys.{point_at-injective}
use Rattle.plane.proofs.Ways.{last_piece, between_flip}
use Rattle.table.specs.Opposites.{found_at}
use Rattle.table.specs.Sides.{evenly}
use Rattle.table.proofs.Shares.{Found, found_at_lem, at_counted}
use Rattle.table_sides.specs.Chains.{clear_in}
use Rattle.table_count.specs.Counting.{side_of, Looked, Tallied, first_pieces, ClearOf}
use Rattle.table_count.proofs.Counted.{tallied_sum, tallied_from}
use Rattle.table_count.proofs.Pieces.{first_more}
use Rattle.table_tally.specs.Direct.{noted_at, added, OnSide, Counted}

-- How often a pair stands in a list.
abbrev # : Edge → List Edge → ℕ
# = count same_edge

-- ---- one more at a number
bits : (a b : Edge) (c d : Edge) → (a ≡ b → c ≡ d) → (c ≡ d → a ≡ b) → bit (same_edge a b) ≡ bit (same_edge c d)
bits a b c d f g = bit_iff (same_edge a b) (same_edge c d) (λ t. subst (λ z. T (same_edge c z)) (f (same_edge-eq a b t)) (same_edge-refl c)) (λ t. subst (λ z. T (same_edge a z)) (g (same_edge-eq c d t)) (same_edge-refl a))

across_bits : (e d : Edge) → bit (same_edge e (flip d)) ≡ bit (same_edge (flip e) d)
across_bits e d = bits e (flip d) (flip e) d (ap flip) (ap flip)

-- A pair is side k exactly if it is found there.
found_bit : (sides : List Edge) → ((j k : ℕ) → j < length sides → k < length sides → side_of sides j ≡ side_of sides k → j ≡ k) → (e : Edge) (k : ℕ) → k < length sides
    → bit (same_edge e (side_of sides k)) ≡ bit (eqb (found_at e sides) (suc k))
found_bit sides once e k h = bit_iff (same_edge e (side_of sides k)) (eqb (found_at e sides) (suc k)) (λ t. to (same_edge-eq e (side_of sides k) t) (found_at_lem e sides (pair 0 0))) (λ t. from (found_at_lem e sides (pair 0 0)) (eqb→eq (found_at e sides) (suc k) t))
  where
    to : e ≡ side_of sides k → Found e sides (pair 0 0) (found_at e sides) (# e sides) → T (eqb (found_at e sides) (suc k))
    to q (inl f) = absurd (omega (arith, f.1, subst (λ z. 1 ≤ # z sides) (sym q) (at_counted sides (pair 0 0) k h)))
    to q (inr f) = subst T (sym (eq-eqb (found_at e sides) (suc k) (f.1 ∙ ap suc (once f.0 k f.3 h (f.4 ∙ q))))) tt

    from : Found e sides (pair 0 0) (found_at e sides) (# e sides) → found_at e sides ≡ suc k → T (same_edge e (side_of sides k))
    from (inl f) q = absurd (omega (arith, f.0))
    from (inr f) q = let s : f.0 ≡ k = omega (arith, f.1) in subst (λ z. T (same_edge e z)) (sym f.4 ∙ ap (side_of sides) s) (same_edge-refl e)

plus_none : (n : ℕ) → n ≡ n + 0
plus_none n = omega arith

-- The count at a place after one more, or one less.
pub added_up : (counts : List ℕ) (s k : ℕ) → k < length counts → get_or (added counts s true) k 0 ≡ get_or counts k 0 + bit (eqb s (suc k))
added_up counts zero k h = rw (ne_eqb 0 (suc k) (λ q. omega arith)) (plus_none (get_or counts k 0))
added_up counts (suc j) k h = go (ℕ_discrete j k)
  where
    go : Dec (j ≡ k) → get_or (set counts j (get_or counts j 0 + 1)) k 0 ≡ get_or counts k 0 + bit (eqb (suc j) (suc k))
    go (yes e) = rw (eq-eqb (suc j) (suc k) (ap suc e), e) (get_or-set_same counts k (get_or counts k 0 + 1) 0 h)
    go (no n) = rw (ne_eqb (suc j) (suc k) (λ q. n (omega arith))) (get_or-set_other counts j k (get_or counts j 0 + 1) 0 (λ q. n (sym q)) ∙ omega arith)

pub added_down : (counts : List ℕ) (s k : ℕ) → k < length counts → 0 < get_or counts k 0 → get_or (added counts s false) k 0 + bit (eqb s (suc k)) ≡ get_or counts k 0
added_down counts zero k h p = rw (ne_eqb 0 (suc k) (λ q. omega arith)) (sym (plus_none (get_or counts k 0)))
added_down counts (suc j) k h p = go (ℕ_discrete j k)
  where
    go : Dec (j ≡ k) → get_or (set counts j (get_or counts j 0 - 1)) k 0 + bit (eqb (suc j) (suc k)) ≡ get_or counts k 0
    go (yes e) = rw (eq-eqb (suc j) (suc k) (ap suc e), e) (let q = get_or-set_same counts k (get_or counts k 0 - 1) 0 h in omega arith)
    go (no n) = rw (ne_eqb (suc j) (suc k) (λ q. n (omega arith))) (let q = get_or-set_other counts j k (get_or counts j 0 - 1) 0 (λ q. n (sym q)) in omega arith)

pub added_room : (counts : List ℕ) (s : ℕ) (up : Bool) (k : ℕ) → k < length counts → 1 < get_or counts k 0 → get_or counts k 0 + 2 < 4294967296 → (0 < get_or (added counts s up) k 0) × (get_or (added counts s up) k 0 + 1 < 4294967296)
added_room counts s true k h p q = omega (arith, added_up counts s k h, bit_small (eqb s (suc k)))
added_room counts s false k h p q = omega (arith, added_down counts s k h (omega arith), bit_small (eqb s (suc k)))

pub length_added : (counts : List ℕ) (s : ℕ) (up : Bool) → length (added counts s up) ≡ length counts
length_added counts zero up = refl
length_added counts (suc j) up = length-set counts j (cond up (get_or counts j 0 + 1) (get_or counts j 0 - 1))

-- ---- one pair more
module _ (sides : List Edge) (once : (j k : ℕ) → j < length sides → k < length sides → side_of sides j ≡ side_of sides k → j ≡ k)
    (l : List Edge) (counts : List ℕ) (tallied : Tallied sides l counts) where
  -- There is room for one more and for one less.
  pub room : ((e : Edge) → # e l ≤ 4096) → (k : ℕ) → k < length sides → (1 < get_or counts k 0) × (get_or counts k 0 + 2 < 4294967296)
  room few k h = omega (arith, tallied_sum sides l counts tallied k h, few (side_of sides k), few (flip (side_of sides k)))

  more : (x e : Edge) → # e (l ++ x ∷ []) ≡ # e l + bit (same_edge x e)
  more x e = omega (arith, count-++ same_edge same_edge-eq same_edge-refl e l (x ∷ []))

  pub tallied_more : ((k : ℕ) → k < length counts → 0 < get_or counts k 0) → (e : Edge) → Tallied sides (l ++ e ∷ []) (added (added counts (found_at e sides) true) (found_at (flip e) sides) false)
  tallied_more some e = tallied_from sides (l ++ e ∷ []) (added (added counts s true) o false) (length_added (added counts s true) o false ∙ length_added counts s true ∙ tallied.number) go
    where
      s : ℕ
      s = found_at e sides

      o : ℕ
      o = found_at (flip e) sides

      go : (k : ℕ) → k < length sides → get_or (added (added counts s true) o false) k 0 + # (flip (side_of sides k)) (l ++ e ∷ []) ≡ 2147483648 + # (side_of sides k) (l ++ e ∷ [])
      go k h =
          let n : k < length counts = omega (arith, tallied.number) in
          let u = added_up counts s k n in
          let d = added_down (added counts s true) o k (omega (arith, length_added counts s true)) (omega (arith, some k n)) in
          omega (arith, tallied_sum sides l counts tallied k h, more e (side_of sides k), more e (flip (side_of sides k)), found_bit sides once e k h, found_bit sides once (flip e) k h, across_bits e (side_of sides k))

-- No pair is counted where each count is none.
pub tallied_none : (sides : List Edge) (counts : List ℕ) → length counts ≡ length sides → All (λ n. n ≡ evenly) counts → Tallied sides [] counts
tallied_none sides counts n a = tallied_from sides [] counts n (λ k h. omega (arith, all_at (λ n. n ≡ evenly) 0 counts k a (omega (arith, n))))

-- ---- a side of which it is noted that no corner is inside
sure : (b : Bool) → T b → b ≡ true
sure true t = refl
sure false t = absurd t

module _ (sides : List Edge) (corners index : List ℕ) (looked : Looked sides corners index) where
  -- It is a side, and no corner is inside.
  noted_side : (u v : ℕ) → T (noted_at index (found_at (pair u v) sides)) → Among same_edge (pair u v) sides × ClearOf corners u v
  noted_side u v t = go (found_at (pair u v) sides) (found_at_lem (pair u v) sides (pair 0 0)) t
    where
      go : (f : ℕ) → Found (pair u v) sides (pair 0 0) f (# (pair u v) sides) → T (noted_at index f) → Among same_edge (pair u v) sides × ClearOf corners u v
      go zero (inl w) t = absurd t
      go zero (inr w) t = absurd t
      go (suc f) (inl w) t = absurd (omega (arith, w.0))
      go (suc f) (inr w) t =
          let k = w.0 in
          let e : f ≡ k = omega (arith, w.1) in
          (w.2, λ p a b. looked.clear k w.3 (ltb-true 0 (clear_in (get_or index k 0)) (sure (noted_at index (suc k)) (subst (λ z. T (noted_at index (suc z))) e t))) p a (subst (λ z. T (between p z)) (sym w.4) b))

  -- The edge from u to v, where that is noted of the side that it is, or of the side that is its reverse.
  pub direct_edge : (u v : ℕ) → (u ≡ v → ⊥) → T (noted_at index (found_at (pair u v) sides) || noted_at index (found_at (pair v u) sides))
      → (pieces (points_at corners) (pair u v) ≡ pair u v ∷ []) × OnSide sides (pair u v)
  direct_edge u v apart t = go (noted_at index (found_at (pair u v) sides)) (noted_side u v) t
    where
      only : ClearOf corners u v → pieces (points_at corners) (pair u v) ≡ pair u v ∷ []
      only clear = last_piece (points_at corners) (point_at u) (point_at v) (λ e. apart (point_at-injective u v e)) clear

      go : (b : Bool) → (T b → Among same_edge (pair u v) sides × ClearOf corners u v) → T (b || noted_at index (found_at (pair v u) sides))
          → (pieces (points_at corners) (pair u v) ≡ pair u v ∷ []) × OnSide sides (pair u v)
      go true f t = let w = f tt in (only w.1, inl w.0)
      go false f t = let w = noted_side v u t in (only (λ p a b. w.1 p a (between_flip p (pair u v) b)), inr w.0)

-- ---- edge by edge
module _ (sides : List Edge) (corners from to : List ℕ) (as_many : length to ≡ length from) where
  -- One edge more that is its only piece.
  pub counted_more : (i : ℕ) (counts : List ℕ) → i < length from → let e = pair (get_or from i 0) (get_or to i 0) in pieces (points_at corners) e ≡ e ∷ [] → OnSide sides e
      → Tallied sides (first_pieces corners from to i ++ e ∷ []) counts → All (OnSide sides) (first_pieces corners from to i) → Counted sides (first_pieces corners from to (suc i)) counts
  counted_more i counts h only on_side t a =
      let e = pair (get_or from i 0) (get_or to i 0) in
      let q : first_pieces corners from to i ++ e ∷ [] ≡ first_pieces corners from to (suc i) = sym (first_more corners from to as_many i h ∙ ap (λ l. first_pieces corners from to i ++ l) only) in
      (subst (λ l. Tallied sides l counts) q t, subst (All (OnSide sides)) q (all-++ (OnSide sides) (first_pieces corners from to i) (e ∷ []) a (on_side, tt)))
