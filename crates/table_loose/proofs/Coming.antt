-- A pair comes to the open ones. The idea: a pair that is put behind the others counts once more; where the reverse is taken out, both count once less, and that
-- leaves the boundary as it is. Assumes nothing.
use mathlib.Core.Path.{◌≡◌, refl, sym, ◌∙◌, ap, subst}
use mathlib.Core.Bool.{Bool, true, false}
use mathlib.Core.List.{List, [], ◌∷◌, ◌++◌}
use Prim.Native.Nat.{ℕ, zero, suc, ◌+◌, ◌-◌, ◌≤◌, ◌<◌}
use native.Mathlib.Omega.{arith}
use native.Mathlib.Decide.{ℕ_discrete}
use borrow.Author.Tests.{eq-eqb, ne_eqb}
use lib.Dec.{T}
use lib.ListN.{length, get_or, set, take}
use lib.Seq.{take-set-le}
use Rattle.whole.specs.Sums.{Among, bit, count, net}
use Rattle.whole.proofs.Int.{zify}
use Rattle.whole.proofs.Sums.{bit_iff, bit_no, count-++}
use Rattle.plane.specs.Points.{Edge, flip, same_edge}
use Rattle.plane.specs.Boundaries.{boundary}
use Rattle.plane.specs.Keys.{pair, pairs}
use Rattle.plane.proofs.Points.{same_edge-eq, same_edge-refl}
use Rattle.plane.proofs.Keys.{point_at-injective}
use Rattle.table_loose.specs.Loose.{way, Apart, Came}

-- ---- boundaries by counts
pub same_from : (l m : List Edge) (e : Edge) → count same_edge e l + count same_edge (flip e) m ≡ count same_edge (flip e) l + count same_edge e m → boundary l e ≡ boundary m e
unfolding net
same_from l m e h = simp zify (omega arith)

pub same_counts : (l m : List Edge) (e : Edge) → boundary l e ≡ boundary m e → count same_edge e l + count same_edge (flip e) m ≡ count same_edge (flip e) l + count same_edge e m
unfolding net
same_counts l m e h = omega (arith, simp zify at h)

-- ---- one pair more, and one less
pub pairs_put : (n : ℕ) (k l : List ℕ) (u v : ℕ) → n < length k → n < length l → pairs (take (suc n) (set k n u)) (take (suc n) (set l n v)) ≡ pairs (take n k) (take n l) ++ pair u v ∷ []
pairs_put n [] l u v h g = absurd (omega arith)
pairs_put n (x ∷ k) [] u v h g = absurd (omega arith)
pairs_put zero (x ∷ k) (y ∷ l) u v h g = refl
pairs_put (suc n) (x ∷ k) (y ∷ l) u v h g = ap (λ z. pair x y ∷ z) (pairs_put n k l u v (omega arith) (omega arith))

-- The last pair counts as one more than those before it.
last_count : (n : ℕ) (k l : List ℕ) (e : Edge) → n < length k → n < length l → count same_edge e (pairs (take (suc n) k) (take (suc n) l)) ≡ count same_edge e (pairs (take n k) (take n l)) + bit (same_edge (pair (get_or k n 0) (get_or l n 0)) e)
last_count n [] l e h g = absurd (omega arith)
last_count n (x ∷ k) [] e h g = absurd (omega arith)
last_count zero (x ∷ k) (y ∷ l) e h g = omega arith
last_count (suc n) (x ∷ k) (y ∷ l) e h g = omega (arith, last_count n k l e (omega arith) (omega arith))

-- A pair in another's place.
swap_count : (j n : ℕ) (k l : List ℕ) (u v : ℕ) (e : Edge) → j < n → n ≤ length k → n ≤ length l
    → count same_edge e (pairs (take n (set k j u)) (take n (set l j v))) + bit (same_edge (pair (get_or k j 0) (get_or l j 0)) e) ≡ count same_edge e (pairs (take n k) (take n l)) + bit (same_edge (pair u v) e)
swap_count j zero k l u v e h g f = absurd (omega arith)
swap_count j (suc n) [] l u v e h g f = absurd (omega arith)
swap_count j (suc n) (x ∷ k) [] u v e h g f = absurd (omega arith)
swap_count zero (suc n) (x ∷ k) (y ∷ l) u v e h g f = omega arith
swap_count (suc j) (suc n) (x ∷ k) (y ∷ l) u v e h g f = omega (arith, swap_count j n k l u v e (omega arith) (omega arith) (omega arith))

-- The last pair moves into the place of the pair with place j.
pub out_count : (j n : ℕ) (k l : List ℕ) (e : Edge) → j ≤ n → n < length k → n < length l
    → count same_edge e (pairs (take n (set k j (get_or k n 0))) (take n (set l j (get_or l n 0)))) + bit (same_edge (pair (get_or k j 0) (get_or l j 0)) e) ≡ count same_edge e (pairs (take (suc n) k) (take (suc n) l))
out_count j n k l e h g f = go (ℕ_discrete j n)
  where
    go : Dec (j ≡ n) → count same_edge e (pairs (take n (set k j (get_or k n 0))) (take n (set l j (get_or l n 0)))) + bit (same_edge (pair (get_or k j 0) (get_or l j 0)) e) ≡ count same_edge e (pairs (take (suc n) k) (take (suc n) l))
    go (yes q) = rw (q, take-set-le n k n (get_or k n 0) (omega arith), take-set-le n l n (get_or l n 0) (omega arith)) (sym (last_count n k l e g f))
    go (no m) = omega (arith, swap_count j n k l (get_or k n 0) (get_or l n 0) e (omega arith) (omega arith) (omega arith), last_count n k l e g f)

-- A pair that stands at no place is not counted.
pub none_counted : (n : ℕ) (k l : List ℕ) (u v : ℕ) → ((j : ℕ) → j < n → get_or k j 0 ≡ u → get_or l j 0 ≡ v → ⊥) → n ≤ length k → n ≤ length l → count same_edge (pair u v) (pairs (take n k) (take n l)) ≡ 0
none_counted zero k l u v h g f = refl
none_counted (suc n) [] l u v h g f = absurd (omega arith)
none_counted (suc n) (x ∷ k) [] u v h g f = absurd (omega arith)
none_counted (suc n) (x ∷ k) (y ∷ l) u v h g f = omega (
  arith,
  bit_no (same_edge (pair x y) (pair u v)) (λ t. let q = same_edge-eq (pair x y) (pair u v) t in h 0 (omega arith) (point_at-injective x u (ap (λ z. z.from) q)) (point_at-injective y v (ap (λ z. z.to) q))),
  none_counted n k l u v (λ j i. h (suc j) (omega arith)) (omega arith) (omega arith),
)

-- ---- what comes
bits : (a b c d : Edge) → (a ≡ b → c ≡ d) → (c ≡ d → a ≡ b) → bit (same_edge a b) ≡ bit (same_edge c d)
bits a b c d f g = bit_iff (same_edge a b) (same_edge c d) (λ t. subst (λ z. T (same_edge c z)) (f (same_edge-eq a b t)) (same_edge-refl c)) (λ t. subst (λ z. T (same_edge a z)) (g (same_edge-eq c d t)) (same_edge-refl a))

-- The pair the other way round.
pub across_way : (u v : ℕ) (e : Edge) → count same_edge e (way v u) ≡ count same_edge (flip e) (way u v)
across_way u v e = go (ℕ_discrete u v)
  where
    go : Dec (u ≡ v) → count same_edge e (way v u) ≡ count same_edge (flip e) (way u v)
    go (yes q) = rw (eq-eqb v u (sym q), eq-eqb u v q)
    go (no n) = rw (ne_eqb v u (λ q. n (sym q)), ne_eqb u v n) (ap (λ b. b + 0) (bits (pair v u) e (pair u v) (flip e) (ap flip) (ap flip)))

module _ (u v : ℕ) (n : u ≡ v → ⊥) (before after : List Edge) where
  own : bit (same_edge (pair u v) (pair v u)) ≡ 0
  own = bit_no (same_edge (pair u v) (pair v u)) (λ t. n (point_at-injective u v (ap (λ z. z.from) (same_edge-eq (pair u v) (pair v u) t))))

  -- The pair is put behind the others.
  pub came_in : after ≡ before ++ pair u v ∷ [] → count same_edge (pair v u) before ≡ 0 → Came (way u v) before after
  came_in q z = rw (ne_eqb u v n) (record { boundary = λ e. same_from after (pair u v ∷ before) e (omega (arith, more e, more (flip e))); from_there = λ e. omega (arith, more e); apart = λ h e m. other h e m (same_edge (pair u v) e) refl (same_edge (pair u v) (flip e)) refl })
    where
      more : (e : Edge) → count same_edge e after ≡ count same_edge e before + bit (same_edge (pair u v) e)
      more e = ap (count same_edge e) q ∙ count-++ same_edge same_edge-eq same_edge-refl e before (pair u v ∷ []) ∙ omega arith

      is : (e : Edge) → same_edge (pair u v) e ≡ true → pair u v ≡ e
      is e t = same_edge-eq (pair u v) e (subst T (sym t) tt)

      other : Apart before → (e : Edge) → Among same_edge e after → (x : Bool) → same_edge (pair u v) e ≡ x → (y : Bool) → same_edge (pair u v) (flip e) ≡ y → count same_edge (flip e) after ≡ 0
      other h e m true s y t = omega (arith, more (flip e), subst (λ w. count same_edge (flip w) before ≡ 0) (is e s) z, subst (λ w. bit (same_edge (pair u v) (flip w)) ≡ 0) (is e s) own)
      other h e m false s true t = absurd (omega (arith, more e, ap bit s, subst (λ w. count same_edge (flip w) before ≡ 0) (is (flip e) t) z))
      other h e m false s false t = omega (arith, more (flip e), ap bit t, h e (omega (arith, more e, ap bit s)))

  -- Its reverse is taken out.
  pub came_out : ((e : Edge) → count same_edge e after + bit (same_edge (pair v u) e) ≡ count same_edge e before) → Came (way u v) before after
  came_out less = rw (ne_eqb u v n) (record {
    boundary = λ e. same_from after (pair u v ∷ before) e (omega (
      arith,
      less e,
      less (flip e),
      bits (pair u v) (flip e) (pair v u) e (ap flip) (ap flip),
      bits (pair v u) (flip e) (pair u v) e (ap flip) (ap flip),
    ));
    from_there = λ e. omega (arith, less e);
    apart = λ h e m. omega (arith, less e, less (flip e), h e (omega (arith, less e)));
  })

-- ---- in two lists
module _ (us vs : List ℕ) (n u v : ℕ) (differ : u ≡ v → ⊥) where
  pub put_came : n < length us → n < length vs → ((j : ℕ) → j < n → get_or us j 0 ≡ v → get_or vs j 0 ≡ u → ⊥) → Came (way u v) (pairs (take n us) (take n vs)) (pairs (take (n + 1) (set us n u)) (take (n + 1) (set vs n v)))
  put_came h g f = let q : n + 1 ≡ suc n = omega arith in rw q (came_in u v differ (pairs (take n us) (take n vs)) (pairs (take (suc n) (set us n u)) (take (suc n) (set vs n v))) (pairs_put n us vs u v h g) (none_counted n us vs v u f (omega arith) (omega arith)))

  pub out_came : (k : ℕ) → k < n → n ≤ length us → n ≤ length vs → get_or us k 0 ≡ v → get_or vs k 0 ≡ u
      → Came (way u v) (pairs (take n us) (take n vs)) (pairs (take (n - 1) (set us k (get_or us (n - 1) 0))) (take (n - 1) (set vs k (get_or vs (n - 1) 0))))
  out_came k h g f p q =
      let m : n ≡ suc (n - 1) = omega arith in
      came_out u v differ (pairs (take n us) (take n vs)) (pairs (take (n - 1) (set us k (get_or us (n - 1) 0))) (take (n - 1) (set vs k (get_or vs (n - 1) 0))))
      (λ e. ap (λ w. count same_edge e (pairs (take (n - 1) (set us k (get_or us (n - 1) 0))) (take (n - 1) (set vs k (get_or vs (n - 1) 0)))) + bit (same_edge w e)) (λ i. pair (sym p i) (sym q i))
      ∙ out_count k (n - 1) us vs e (omega arith) (omega arith) (omega arith) ∙ ap (λ z. count same_edge e (pairs (take z us) (take z vs))) (sym m))
