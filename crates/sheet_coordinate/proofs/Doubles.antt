-- Doubles and whole numbers in range. The idea: a double fin s m e is the fraction m * up e / down e, so each test of it is a test of
-- naturals. A double that equals n is n * down e over down e, so it is small and cut to n; a small one is cut to a number in range.
-- Assumes nothing.
use Rattle.std.proofs.Common.{◌≡◌, ℕ, zero, suc, ◌+◌, ◌-◌, ◌*◌, ◌/◌, ◌^◌, ◌<◌, ◌≤◌, min, Bool, true, false, cond, ◌&&◌, ◌||◌, T, eqb, ltb, ◌⊎◌, ℤ, pos, negsuc, neg_ℤ, nat_abs, sym, refl, ap, ◌∙◌, inl, inr, le_trans, lt_of_le_of_lt, lt_irrefl, mul-le-mul_right, div-lt_iff_lt-mul, eq-or-lt_of_le, zero-mul, mul-one, mul_right_comm, mul-div_cancel, arith, lit<, lit≤, le→leb, lt→ltb, ltb-true, lt-ltb, eq-eqb, eqb-true}
use mathlib.Core.Bool.{beq, false≢true}
use native.Mathlib.Nat.{eq_of_mul-eq-mul_right, min-eq_left, min-le_left}
use lib.Ieee.{Float, nan, inf, fin, binary64, up, down, of_int, eq, lt, le, to_signed, in_signed, in_float}
use lib.Ieee.Fits.{down_pos}
use lib.Ieee.Exact.{HasValue}
use lib.Ieee.Back.{round_whole, positive_back, negative_back}
use Rattle.whole.specs.Numbers.{Within}
use Rattle.whole.proofs.Bound.{size_neg}
use Rattle.sheet_coordinate.specs.Coordinate.{Equals}

pub and_true : (a b : Bool) → a && b ≡ true → (a ≡ true) × (b ≡ true)
and_true true b h = (refl, h)
and_true false b h = absurd (false≢true h)

or_true : (a b : Bool) → a || b ≡ true → (a ≡ true) ⊎ (b ≡ true)
or_true true b h = inl refl
or_true false b h = inr h

beq_true : (s t : Bool) → beq s t ≡ true → s ≡ t
beq_true true true h = refl
beq_true false false h = refl
beq_true true false h = absurd (false≢true h)
beq_true false true h = absurd (false≢true h)

-- ---- a double that equals a whole number

abbrev pub sign : ℤ → Bool
sign (pos k) = false
sign (negsuc k) = true

-- A whole number as a double has its value.
pub int_value : (n : ℤ) → Within 10_000_000 n → HasValue (of_int binary64 n) (sign n) (nat_abs n) 1
unfolding of_int
int_value (pos k) h = round_whole binary64 false k (le_trans h.size (lit≤ tt))
int_value (negsuc k) h = round_whole binary64 true (suc k) (le_trans h.size (lit≤ tt))

-- x is the number with the sign t and the size k, or both are 0.
abbrev Value : Float → Bool → ℕ → Type 0
Value nan t k = ⊥
Value (inf s) t k = ⊥
Value (fin s m e) t k = (m * up e ≡ k * down e) × ((s ≡ t) ⊎ (k ≡ 0))

zero_of : (k d : ℕ) → 0 < d → k * d ≡ 0 → k ≡ 0
zero_of k d p h = eq_of_mul-eq-mul_right d p k 0 (h ∙ sym (zero-mul d))

cross : (m n d g k : ℕ) → 0 < g → m * g ≡ n * d → n * 1 ≡ k * g → m ≡ k * d
cross m n d g k p h v =
    eq_of_mul-eq-mul_right g p m (k * d) (h ∙ ap (λ (x : ℕ). x * d) (sym (mul-one n) ∙ v) ∙ mul_right_comm k g d)

-- A double that equals one of the value k with the sign t is that number.
eq_value : (x y : Float) (t : Bool) (k : ℕ) → HasValue y t k 1 → eq x y ≡ true → Value x t k
unfolding eq
eq_value nan y t k v h = absurd (false≢true h)
eq_value (inf s) nan t k v h = absurd (false≢true h)
eq_value (inf s) (inf u) t k v h = v
eq_value (inf s) (fin u n g) t k v h = absurd (false≢true h)
eq_value (fin s m e) nan t k v h = absurd (false≢true h)
eq_value (fin s m e) (inf u) t k v h = absurd (false≢true h)
eq_value (fin s m e) (fin u n g) t k v h =
    let w = and_true (eqb (m * up e * down g) (n * up g * down e)) (beq s u || eqb (m * up e * down g) 0) h in
    let q = cross (m * up e) (n * up g) (down e) (down g) k (down_pos g) (eqb-true _ _ w.0) v.1 in
    (q, go q (or_true (beq s u) (eqb (m * up e * down g) 0) w.1))
  where
    go : m * up e ≡ k * down e → (beq s u ≡ true) ⊎ (eqb (m * up e * down g) 0 ≡ true) → (s ≡ t) ⊎ (k ≡ 0)
    go q (inl b) = inl (beq_true s u b ∙ v.0)
    go q (inr z) = inr (zero_of k (down e) (down_pos e) (sym q ∙ zero_of (m * up e) (down g) (down_pos g) (eqb-true _ _ z)))

equal_value : (x : Float) (n : ℤ) → Within 10_000_000 n → Equals x n → Value x (sign n) (nat_abs n)
equal_value x n r h = eq_value x (of_int binary64 n) (sign n) (nat_abs n) (int_value n r) h

-- The size, cut toward zero.
cut_size : (m : ℕ) (e : ℤ) (k : ℕ) → m * up e ≡ k * down e → m * up e / down e ≡ k
cut_size m e k h = ap (λ (x : ℕ). x / down e) h ∙ mul-div_cancel k (down_pos e)

signed : (s : Bool) (n : ℤ) → (s ≡ sign n) ⊎ (nat_abs n ≡ 0) → cond s (neg_ℤ (pos (nat_abs n))) (pos (nat_abs n)) ≡ n
signed false (pos k) h = refl
signed true (pos zero) h = refl
signed true (pos (suc k)) (inl h) = absurd (false≢true (sym h))
signed true (pos (suc k)) (inr h) = absurd (lt_irrefl 0 (omega arith))
signed true (negsuc k) h = refl
signed false (negsuc k) (inl h) = absurd (false≢true h)
signed false (negsuc k) (inr h) = absurd (lt_irrefl 0 (omega arith))

value_cut : (x : Float) (n : ℤ) → Within 10_000_000 n → Value x (sign n) (nat_abs n) → to_signed 63 x ≡ n
unfolding to_signed
value_cut (fin s m e) n r v =
    let c = cut_size m e (nat_abs n) v.0 in
    let a : min (m * up e / down e) (2 ^ 63) ≡ nat_abs n = rw c (min-eq_left (le_trans r.size (lit≤ tt))) in
    let b : min (m * up e / down e) (2 ^ 63 - 1) ≡ nat_abs n = rw c (min-eq_left (le_trans r.size (lit≤ tt))) in
    rw (a, b) (signed s n v.1)
value_cut nan n r v = elim v [ ]
value_cut (inf _) n r v = elim v [ ]

-- A double that equals n is cut to n.
pub equal_cut : (x : Float) (n : ℤ) → Within 10_000_000 n → Equals x n → to_signed 63 x ≡ n
equal_cut x n r h = value_cut x n r (equal_value x n r h)

-- ---- the range

-- Finite, and of a size of at most 10,000,000.
abbrev pub Small : Float → Type 0
Small nan = ⊥
Small (inf s) = ⊥
Small (fin s m e) = m * up e ≤ 10_000_000 * down e

-- A double that equals a number in range is small.
pub equal_small : (x : Float) (n : ℤ) → Within 10_000_000 n → Equals x n → Small x
equal_small x n r h = go x (equal_value x n r h)
  where
    go : (x : Float) → Value x (sign n) (nat_abs n) → Small x
    go (fin s m e) v = rw v.0 (mul-le-mul_right (down e) r.size)
    go nan v = elim v [ ]
    go (inf _) v = elim v [ ]

-- A small double is cut to a number in range.
pub small_cut : (x : Float) → Small x → Within 10_000_000 (to_signed 63 x)
unfolding to_signed
small_cut (fin s m e) h = record { size = go s }
  where
    q : m * up e / down e ≤ 10_000_000
    q = let l : m * up e / down e < 10_000_001 = (div-lt_iff_lt-mul (down_pos e)).1 (omega (arith, down_pos e)) in omega arith

    go : (s : Bool) → nat_abs (cond s (neg_ℤ (pos (min (m * up e / down e) (2 ^ 63)))) (pos (min (m * up e / down e) (2 ^ 63 - 1)))) ≤ 10_000_000
    go true = rw size_neg (le_trans (min-le_left _ _) q)
    go false = le_trans (min-le_left _ _) q
small_cut nan h = elim h [ ]
small_cut (inf _) h = elim h [ ]

-- ---- the tests of the range

-- -10,000,000 and 10,000,000 as doubles.
abbrev pub lowest : Float
lowest = fin true 78125 (pos 7)

abbrev pub highest : Float
highest = fin false 78125 (pos 7)

-- a ≤ b, tested as a < b or, by a test p, a = b.
le_of_or : (a b : ℕ) (p r : Bool) → (p ≡ true → a ≡ b) → ltb a b || (p && r) ≡ true → a ≤ b
le_of_or a b p r same h = go (or_true (ltb a b) (p && r) h)
  where
    go : (ltb a b ≡ true) ⊎ (p && r ≡ true) → a ≤ b
    go (inl l) = let q = ltb-true a b l in omega arith
    go (inr l) = let q = same (and_true p r l).0 in omega arith

or_of_le : (a b : ℕ) (p : Bool) → (a ≡ b → p ≡ true) → a ≤ b → ltb a b || (p && true) ≡ true
or_of_le a b p same h = go (eq-or-lt_of_le h)
  where
    or_r : (q : Bool) → q || true ≡ true
    or_r true = refl
    or_r false = refl

    go : (a ≡ b) ⊎ (a < b) → ltb a b || (p && true) ≡ true
    go (inl e) = rw (same e) (or_r (ltb a b))
    go (inr l) = rw (lt-ltb a b l) refl

-- A double that passes both tests is small, and a small one passes both.
pub tested : (x : Float) → le lowest x ≡ true → le x highest ≡ true → Small x
unfolding le lt eq
tested nan l h = false≢true l
tested (inf true) l h = false≢true l
tested (inf false) l h = false≢true h
tested (fin false m e) l h = rw mul-one at (le_of_or (m * up e * 1) (10_000_000 * down e) _ _ (eqb-true _ _) h)
tested (fin true m e) l h = rw mul-one at (le_of_or (m * up e * 1) (10_000_000 * down e) _ _ (λ q. sym (eqb-true _ _ q)) l)

pub small_low : (x : Float) → Small x → le lowest x ≡ true
unfolding le lt eq
small_low (fin false m e) h = rw (lt-ltb 0 (10_000_000 * down e + m * up e * 1) (omega (arith, down_pos e))) refl
small_low (fin true m e) h = or_of_le (m * up e * 1) (10_000_000 * down e) _ (λ q. eq-eqb _ _ (sym q)) (rw mul-one h)
small_low nan h = elim h [ ]
small_low (inf _) h = elim h [ ]

pub small_high : (x : Float) → Small x → le x highest ≡ true
unfolding le lt eq
small_high (fin false m e) h = or_of_le (m * up e * 1) (10_000_000 * down e) _ (eq-eqb _ _) (rw mul-one h)
small_high (fin true m e) h = rw (lt-ltb 0 (m * up e * 1 + 10_000_000 * down e) (omega (arith, down_pos e))) refl
small_high nan h = elim h [ ]
small_high (inf _) h = elim h [ ]

-- ---- the casts

-- What the cut to a 64-bit number asks: from -2^63 to below 2^63.
pub cut_low : (x : Float) → Small x → T (le (fin true 1 (pos 63)) x)
unfolding le lt eq
cut_low (fin false m e) h = rw (lt-ltb 0 (2 ^ 63 * down e + m * up e * 1) (omega (arith, down_pos e))) tt
cut_low (fin true m e) h = rw (lt-ltb (m * up e * 1) (2 ^ 63 * down e) (omega (arith, down_pos e))) tt
cut_low nan h = elim h [ ]
cut_low (inf _) h = elim h [ ]

pub cut_high : (x : Float) → Small x → T (lt x (fin false 1 (pos 63)))
unfolding lt
cut_high (fin false m e) h = rw (lt-ltb (m * up e * 1) (2 ^ 63 * down e) (omega (arith, down_pos e))) tt
cut_high (fin true m e) h = rw (lt-ltb 0 (m * up e * 1 + 2 ^ 63 * down e) (omega (arith, down_pos e))) tt
cut_high nan h = elim h [ ]
cut_high (inf _) h = elim h [ ]

-- A whole number in range, as a double, is cast back with nothing lost.
pub back : (n : ℤ) → Within 10_000_000 n → T (in_signed binary64 31 (of_int binary64 n)) × (to_signed 31 (of_int binary64 n) ≡ n)
unfolding in_float
back (pos k) h = positive_back binary64 31 k (le→leb k _ (le_trans h.size (lit≤ tt))) (lt_of_le_of_lt h.size (lit< tt))
back (negsuc k) h = negative_back binary64 31 k (lt→ltb k _ (le_trans h.size (lit≤ tt))) (le_trans h.size (lit≤ tt))
