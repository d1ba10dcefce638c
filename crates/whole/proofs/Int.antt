-- Whole numbers as a commutative ring with an order. The idea: a whole number is a difference a ⊖ b of naturals, so that sums,
-- products, equations and orders of whole numbers turn into ones of naturals (`simp zify`), which `omega` proves. Assumes nothing.
use mathlib.Core.Path.{◌≡◌, refl, ap, subst}
use mathlib.Core.Logic.{◌↔◌, ◌⊎◌, inl, inr}
use mathlib.Core.Bool.{Bool, true, false, not, cond}
use Prim.Native.Nat.{ℕ, zero, suc, ◌+◌, ◌*◌, ◌-◌, ◌<◌, ◌≤◌}
use native.Mathlib.Omega.{arith}
use native.Mathlib.Nat.{mul-pos}
use native.Mathlib.Numerals.{unary_clauses}
use lib.IntN.{ℤ, pos, negsuc, neg_ℤ, sub_ℕ, ◌+ℤ◌, ◌-ℤ◌, ◌*ℤ◌, nat_abs, zero-*ℤ, *ℤ-zero, +ℤ_idl, +ℤ_idr}
use native.Mathlib.Decide.{dec_lt}
use lib.Dec.{T, ltb, ltb→lt, lt→ltb, leb→le, le→leb, nltb→le, eqb→eq, eqb_refl, T_not}
use lib.Signed.{le_z, ◌≤ℤ◌, ◌<ℤ◌, le_z_yes, lt_z_yes, ≤ℤ_refl, <ℤ_irrefl}
use Rattle.whole.specs.Numbers.{eq_z, smaller, greater}
use Rattle.whole.proofs.Tests.{by_test}

infixl 6 ◌⊖◌
-- The difference of two naturals; shut, so that `simp` sees the call.
unfoldable pub ◌⊖◌ : ℕ → ℕ → ℤ
a ⊖ b = sub_ℕ a b

-- The positive and the negative part of a whole number.
abbrev pub up : ℤ → ℕ
up (pos n) = n
up (negsuc n) = 0

abbrev pub down : ℤ → ℕ
down (pos n) = 0
down (negsuc n) = suc n

-- A difference is a natural number or the negative of one above 0.
⊖_is : (a b : ℕ) (P : ℤ → Type 0) → ((k : ℕ) → a ≡ b + k → P (pos k)) → ((k : ℕ) → b ≡ a + suc k → P (negsuc k)) → P (a ⊖ b)
unfolding ◌⊖◌
⊖_is a b P f g = by_test P (ltb a b) (negsuc (b - suc a)) (pos (a - b)) (λ t. let h : a < b = ltb→lt a b t in g (b - suc a) (omega arith)) (λ t. let h : b ≤ a = nltb→le a b t in f (a - b) (omega arith))

-- z is a − b, told in naturals.
abbrev pub Is : ℤ → ℕ → ℕ → Type 0
Is z a b = up z + b ≡ a + down z

pub is-⊖ : (a b : ℕ) → Is (a ⊖ b) a b
is-⊖ a b = ⊖_is a b (λ z. Is z a b) (λ k e. omega arith) (λ k e. omega arith)

pub is_unique : (z w : ℤ) (a b : ℕ) → Is z a b → Is w a b → z ≡ w
is_unique (pos m) (pos n) a b h k = ap pos (omega arith)
is_unique (pos m) (negsuc n) a b h k = absurd (omega arith)
is_unique (negsuc m) (pos n) a b h k = absurd (omega arith)
is_unique (negsuc m) (negsuc n) a b h k = ap negsuc (omega arith)

pub to-⊖ : (z : ℤ) (a b : ℕ) → Is z a b → z ≡ a ⊖ b
to-⊖ z a b h = is_unique z (a ⊖ b) a b h (is-⊖ a b)

pub parts : (z : ℤ) → z ≡ up z ⊖ down z
parts z = to-⊖ z (up z) (down z) refl

pub ⊖-eq : (a b c d : ℕ) → (a ⊖ b ≡ c ⊖ d) ↔ (a + d ≡ c + b)
⊖-eq a b c d = (
  λ e. let h : Is (c ⊖ d) a b = subst (λ z. Is z a b) e (is-⊖ a b) in omega (arith, is-⊖ c d),
  λ e. to-⊖ (a ⊖ b) c d (omega (arith, is-⊖ a b)),
)

pub is_neg : (z : ℤ) (a b : ℕ) → Is z a b → Is (neg_ℤ z) b a
is_neg (pos zero) a b h = omega arith
is_neg (pos (suc n)) a b h = omega arith
is_neg (negsuc n) a b h = omega arith

pub is_add : (z w : ℤ) (a b c d : ℕ) → Is z a b → Is w c d → Is (z +ℤ w) (a + c) (b + d)
unfolding ◌⊖◌
is_add (pos m) (pos n) a b c d h k = omega arith
is_add (pos m) (negsuc n) a b c d h k = omega (arith, is-⊖ m (suc n))
is_add (negsuc m) (pos n) a b c d h k = omega (arith, is-⊖ n (suc m))
is_add (negsuc m) (negsuc n) a b c d h k = omega arith

pub neg-⊖ : (a b : ℕ) → neg_ℤ (a ⊖ b) ≡ b ⊖ a
neg-⊖ a b = to-⊖ _ b a (is_neg (a ⊖ b) a b (is-⊖ a b))

pub add-⊖ : (a b c d : ℕ) → (a ⊖ b) +ℤ (c ⊖ d) ≡ (a + c) ⊖ (b + d)
add-⊖ a b c d = to-⊖ _ (a + c) (b + d) (is_add (a ⊖ b) (c ⊖ d) a b c d (is-⊖ a b) (is-⊖ c d))

pub mul-⊖ : (a b c d : ℕ) → (a ⊖ b) *ℤ (c ⊖ d) ≡ (a * c + b * d) ⊖ (a * d + b * c)
mul-⊖ a b c d =
    ⊖_is a b (λ z. z *ℤ (c ⊖ d) ≡ (a * c + b * d) ⊖ (a * d + b * c))
    (λ m e. ⊖_is c d (λ w. pos m *ℤ w ≡ (a * c + b * d) ⊖ (a * d + b * c))
    (λ n f. rw (e, f) (to-⊖ _ _ _ (omega arith)))
    (λ n f. rw (e, f) (to-⊖ _ _ _ (is_neg (pos (m * suc n)) _ _ (omega arith)))))
    (λ m e. ⊖_is c d (λ w. negsuc m *ℤ w ≡ (a * c + b * d) ⊖ (a * d + b * c))
    (λ n f. rw (e, f) (to-⊖ _ _ _ (is_neg (pos (suc m * n)) _ _ (omega arith))))
    (λ n f. rw (e, f) (to-⊖ _ _ _ (omega arith))))

-- ---- the order of lib.Signed, told in naturals
pub le_is : (z w : ℤ) → (z ≤ℤ w) ↔ (up z + down w ≤ up w + down z)
le_is (pos m) (pos n) = (λ h. omega (arith, leb→le m n h.le), λ h. le_z_yes (le→leb m n (omega arith)))
le_is (pos m) (negsuc n) = (λ h. absurd h.le, λ h. absurd (omega arith))
le_is (negsuc m) (pos n) = (λ h. omega arith, λ h. le_z_yes tt)
le_is (negsuc m) (negsuc n) = (λ h. omega (arith, leb→le n m h.le), λ h. le_z_yes (le→leb n m (omega arith)))

pub lt_is : (z w : ℤ) → (z <ℤ w) ↔ (up z + down w < up w + down z)
lt_is (pos m) (pos n) = (λ h. omega (arith, ltb→lt m n h.lt), λ h. lt_z_yes (lt→ltb m n (omega arith)))
lt_is (pos m) (negsuc n) = (λ h. absurd h.lt, λ h. absurd (omega arith))
lt_is (negsuc m) (pos n) = (λ h. omega arith, λ h. lt_z_yes tt)
lt_is (negsuc m) (negsuc n) = (λ h. omega (arith, ltb→lt n m h.lt), λ h. lt_z_yes (lt→ltb n m (omega arith)))

pub ⊖-le : (a b c d : ℕ) → ((a ⊖ b) ≤ℤ (c ⊖ d)) ↔ (a + d ≤ c + b)
⊖-le a b c d = (
  λ h. omega (arith, (le_is (a ⊖ b) (c ⊖ d)).0 h, is-⊖ a b, is-⊖ c d),
  λ h. (le_is (a ⊖ b) (c ⊖ d)).1 (omega (arith, is-⊖ a b, is-⊖ c d)),
)

pub ⊖-lt : (a b c d : ℕ) → ((a ⊖ b) <ℤ (c ⊖ d)) ↔ (a + d < c + b)
⊖-lt a b c d = (
  λ h. omega (arith, (lt_is (a ⊖ b) (c ⊖ d)).0 h, is-⊖ a b, is-⊖ c d),
  λ h. (lt_is (a ⊖ b) (c ⊖ d)).1 (omega (arith, is-⊖ a b, is-⊖ c d)),
)

pub pos-⊖ : (n : ℕ) → pos n ≡ n ⊖ 0
pos-⊖ n = to-⊖ (pos n) n 0 (omega arith)

pub negsuc-⊖ : (n : ℕ) → negsuc n ≡ 0 ⊖ suc n
negsuc-⊖ n = to-⊖ (negsuc n) 0 (suc n) (omega arith)

-- Goals: `rw (parts a, parts b) (simp zify (omega arith))`.
pub ruleset zify = (pos-⊖, negsuc-⊖, neg-⊖, add-⊖, mul-⊖, ⊖-eq, ⊖-le, ⊖-lt)

-- Hypotheses on whole numbers that are variables are read by `omega (arith, ints)`; compound ones are first turned by `simp zify at`.
pub eq-ℕ : {z w : ℤ} → z ≡ w → up z + down w ≡ up w + down z
eq-ℕ {z} {w} e = rw e refl

pub le-ℕ : {z w : ℤ} → z ≤ℤ w → up z + down w ≤ up w + down z
le-ℕ {z} {w} h = (le_is z w).0 h

pub lt-ℕ : {z w : ℤ} → z <ℤ w → up z + down w < up w + down z
lt-ℕ {z} {w} h = (lt_is z w).0 h

pub ruleset ints = (eq-ℕ, le-ℕ, lt-ℕ)

-- ---- the laws of a commutative ring that lib.IntN has not
pub *_assoc : (a b c : ℤ) → a *ℤ (b *ℤ c) ≡ (a *ℤ b) *ℤ c
*_assoc a b c = rw (parts a, parts b, parts c) (simp zify (omega arith))

pub *_dist : (a b c : ℤ) → (a +ℤ b) *ℤ c ≡ a *ℤ c +ℤ b *ℤ c
*_dist a b c = rw (parts a, parts b, parts c) (simp zify (omega arith))

pub one-* : (a : ℤ) → pos 1 *ℤ a ≡ a
one-* (pos n) = ap pos (omega arith)
one-* (negsuc n) = ap (λ k. neg_ℤ (pos k)) (one_times (suc n))
  where
    one_times : (k : ℕ) → 1 * k ≡ k
    one_times k = omega arith

-- ---- laws of the order
pub *-pos : (a b : ℤ) → pos 0 <ℤ a → pos 0 <ℤ b → pos 0 <ℤ (a *ℤ b)
*-pos (pos m) (pos n) h k = lt_z_yes (lt→ltb 0 (m * n) (mul-pos (ltb→lt 0 m h.lt) (ltb→lt 0 n k.lt)))
*-pos (pos m) (negsuc n) h k = absurd k.lt
*-pos (negsuc m) b h k = absurd h.lt

pub add_pos : (a b : ℤ) → pos 0 <ℤ a → pos 0 <ℤ b → pos 0 <ℤ (a +ℤ b)
add_pos a b h k = rw (parts a, parts b) (simp zify (omega (arith, ints)))

-- a < b is told by b - a.
pub gap_pos : (a b : ℤ) → (a <ℤ b) ↔ (pos 0 <ℤ (b -ℤ a))
gap_pos a b = (
  λ h. rw (parts a, parts b) (simp zify (omega (arith, ints))),
  λ h. rw (parts a, parts b) (simp zify (omega (arith, simp zify at (rw (parts a, parts b) at h)))),
)

pub lt_le : (z w : ℤ) → z <ℤ w → z ≤ℤ w
lt_le z w h = rw (parts z, parts w) (simp zify (omega (arith, ints)))

pub ≤-<-trans : (z w v : ℤ) → z ≤ℤ w → w <ℤ v → z <ℤ v
≤-<-trans z w v h k = rw (parts z, parts v) (simp zify (omega (arith, ints)))

pub ≤_trans : (z w v : ℤ) → z ≤ℤ w → w ≤ℤ v → z ≤ℤ v
≤_trans z w v h k = rw (parts z, parts v) (simp zify (omega (arith, ints)))

pub ≤_antisym : (z w : ℤ) → z ≤ℤ w → w ≤ℤ z → z ≡ w
≤_antisym z w h k = rw (parts z, parts w) (simp zify (omega (arith, ints)))

-- Only 0 is its own negative.
pub self_neg : (z : ℤ) → z ≡ neg_ℤ z → z ≡ pos 0
self_neg z e = rw (parts z) (simp zify (omega (arith, simp zify at (rw (parts z) at e))))

-- Any two numbers are in order one way, the same, or in order the other way.
pub data Order (z w : ℤ) : Type 0 where
  less : z <ℤ w → Order z w
  equal : z ≡ w → Order z w
  more : w <ℤ z → Order z w

pub order : (z w : ℤ) → Order z w
order (pos m) (pos n) = naturals (dec_lt m n) (dec_lt n m)
  where
    naturals : Dec (m < n) → Dec (n < m) → Order (pos m) (pos n)
    naturals (yes h) d = less ((lt_is (pos m) (pos n)).1 (omega arith))
    naturals (no h) (yes k) = more ((lt_is (pos n) (pos m)).1 (omega arith))
    naturals (no h) (no k) = equal (ap pos (omega arith))
order (pos m) (negsuc n) = more ((lt_is (negsuc n) (pos m)).1 (omega arith))
order (negsuc m) (pos n) = less ((lt_is (negsuc m) (pos n)).1 (omega arith))
order (negsuc m) (negsuc n) = naturals (dec_lt m n) (dec_lt n m)
  where
    naturals : Dec (m < n) → Dec (n < m) → Order (negsuc m) (negsuc n)
    naturals (yes h) d = more ((lt_is (negsuc n) (negsuc m)).1 (omega arith))
    naturals (no h) (yes k) = less ((lt_is (negsuc m) (negsuc n)).1 (omega arith))
    naturals (no h) (no k) = equal (ap negsuc (omega arith))

-- The sign of a product with a factor above 0 is that of the other factor.
pub unscale : (m z : ℤ) → pos 0 <ℤ m → pos 0 <ℤ (m *ℤ z) → pos 0 <ℤ z
unscale (pos zero) z h k = absurd h.lt
unscale (pos (suc m)) (pos zero) h k = subst (λ w. pos 0 <ℤ w) (*ℤ-zero (pos (suc m))) k
unscale (pos (suc m)) (pos (suc n)) h k = (lt_is (pos 0) (pos (suc n))).1 (omega arith)
unscale (pos (suc m)) (negsuc n) h k = absurd (simp unary_clauses at k).lt
unscale (negsuc m) z h k = absurd h.lt

pub unscale_zero : (m z : ℤ) → pos 0 <ℤ m → m *ℤ z ≡ pos 0 → z ≡ pos 0
unscale_zero (pos zero) z h e = absurd h.lt
unscale_zero (pos (suc m)) (pos zero) h e = refl
unscale_zero (pos (suc m)) (pos (suc n)) h e = absurd (omega (arith, ap nat_abs (simp unary_clauses at e)))
unscale_zero (pos (suc m)) (negsuc n) h e = absurd (omega (arith, ap nat_abs (simp unary_clauses at e)))
unscale_zero (negsuc m) z h e = absurd h.lt

-- Factors of a product above 0 whose sum is above 0 are both above 0.
pub both_pos : (z w : ℤ) → pos 0 <ℤ (z *ℤ w) → pos 0 <ℤ (z +ℤ w) → (pos 0 <ℤ z) × (pos 0 <ℤ w)
both_pos (pos (suc m)) (pos n) h k = ((lt_is (pos 0) (pos (suc m))).1 (omega arith), unscale (pos (suc m)) (pos n) ((lt_is (pos 0) (pos (suc m))).1 (omega arith)) h)
both_pos (pos zero) (pos n) h k = absurd (<ℤ_irrefl (subst (λ z. pos 0 <ℤ z) (zero-*ℤ (pos n)) h))
both_pos (pos zero) (negsuc n) h k = absurd (<ℤ_irrefl (subst (λ z. pos 0 <ℤ z) (zero-*ℤ (negsuc n)) h))
both_pos (pos (suc m)) (negsuc n) h k = absurd (simp unary_clauses at h).lt
both_pos (negsuc m) (pos zero) h k = absurd (<ℤ_irrefl (subst (λ z. pos 0 <ℤ z) (*ℤ-zero (negsuc m)) h))
both_pos (negsuc m) (pos (suc n)) h k = absurd (simp unary_clauses at h).lt
both_pos (negsuc m) (negsuc n) h k = absurd k.lt

-- A sum of two squares is above 0 unless both roots are 0.
pub squares : (z w : ℤ) → (z ≡ pos 0 → w ≡ pos 0 → ⊥) → pos 0 <ℤ (z *ℤ z +ℤ w *ℤ w)
squares z w h = go (square z) (square w)
  where
    square : (z : ℤ) → (z ≡ pos 0) ⊎ (pos 0 <ℤ (z *ℤ z))
    square (pos zero) = inl refl
    square (pos (suc n)) = inr (*-pos (pos (suc n)) (pos (suc n)) ((lt_is (pos 0) (pos (suc n))).1 (omega arith)) ((lt_is (pos 0) (pos (suc n))).1 (omega arith)))
    square (negsuc n) = inr (*-pos (pos (suc n)) (pos (suc n)) ((lt_is (pos 0) (pos (suc n))).1 (omega arith)) ((lt_is (pos 0) (pos (suc n))).1 (omega arith)))

    go : (z ≡ pos 0) ⊎ (pos 0 <ℤ (z *ℤ z)) → (w ≡ pos 0) ⊎ (pos 0 <ℤ (w *ℤ w)) → pos 0 <ℤ (z *ℤ z +ℤ w *ℤ w)
    go (inl a) (inl b) = absurd (h a b)
    go (inl a) (inr q) = rw (a, +ℤ_idl (w *ℤ w)) q
    go (inr p) (inl b) = rw (b, +ℤ_idr (z *ℤ z)) p
    go (inr p) (inr q) = add_pos (z *ℤ z) (w *ℤ w) p q

-- ---- the smaller and the greater of two numbers
choice : (b : Bool) (z w : ℤ) (P : ℤ → Type 0) → (T b → P z) → (T (not b) → P w) → P (cond b z w)
choice true z w P f g = f tt
choice false z w P f g = g tt

pub not_le : (z w : ℤ) → T (not (le_z z w)) → w ≤ℤ z
not_le z w t = go (order w z)
  where
    go : Order w z → w ≤ℤ z
    go (less h) = lt_le w z h
    go (equal e) = subst (λ v. w ≤ℤ v) e (≤ℤ_refl w)
    go (more h) = absurd (T_not (le_z z w) t (lt_le z w h).le)

pub smaller_left : (z w : ℤ) → smaller z w ≤ℤ z
unfolding smaller
smaller_left z w = choice (le_z z w) z w (λ v. v ≤ℤ z) (λ t. ≤ℤ_refl z) (not_le z w)

pub smaller_right : (z w : ℤ) → smaller z w ≤ℤ w
unfolding smaller
smaller_right z w = choice (le_z z w) z w (λ v. v ≤ℤ w) le_z_yes (λ t. ≤ℤ_refl w)

pub greater_left : (z w : ℤ) → z ≤ℤ greater z w
unfolding greater
greater_left z w = choice (le_z z w) w z (λ v. z ≤ℤ v) le_z_yes (λ t. ≤ℤ_refl z)

pub greater_right : (z w : ℤ) → w ≤ℤ greater z w
unfolding greater
greater_right z w = choice (le_z z w) w z (λ v. w ≤ℤ v) (λ t. ≤ℤ_refl w) (not_le z w)

-- ---- the test of equality
pub eq_z-eq : (z w : ℤ) → T (eq_z z w) → z ≡ w
eq_z-eq (pos m) (pos n) t = ap pos (eqb→eq m n t)
eq_z-eq (pos m) (negsuc n) t = absurd t
eq_z-eq (negsuc m) (pos n) t = absurd t
eq_z-eq (negsuc m) (negsuc n) t = ap negsuc (eqb→eq m n t)

pub eq_z-refl : (z : ℤ) → T (eq_z z z)
eq_z-refl (pos n) = eqb_refl n
eq_z-refl (negsuc n) = eqb_refl n
