-- Newton's iteration for a root, on whole numbers: the guess after a step from any guess above 0 is at least the root, and a step from a guess whose square is above n
-- gives a smaller one. The idea: twice a product is at most the two squares, so that the mean of two numbers is at least the root of their product. Assumes nothing.
use mathlib.Core.Path.{◌≡◌, refl, subst}
use Prim.Native.Nat.{ℕ, zero, suc, ◌+◌, ◌*◌, ◌/◌, ◌^◌, ◌≤◌, ◌<◌}
use native.Mathlib.Omega.{arith}
use native.Mathlib.Nat.{add_comm, add_assoc, add_left_comm, mul_comm, mul-add, add-mul, mul-le-mul, le_dest, lt_of_lt_of_le, div-lt_iff_lt-mul}
use native.Mathlib.Decide.{dec_le}
use lib.Pow.{pow_mono, pow-add}

-- ---- twice a product is at most the two squares
regrouped : (a d : ℕ) → a * (a + d) + a * (a + d) + d * d ≡ (a + d) * (a + d) + a * a
regrouped a d = simp (mul-add, add-mul, mul_comm, add_assoc, add_comm, add_left_comm) refl

products_of_more : (a b : ℕ) → a ≤ b → a * b + a * b ≤ b * b + a * a
products_of_more a b h =
    let (d, e) = le_dest h in
    subst (λ x. a * x + a * x ≤ x * x + a * a) e (omega (arith, regrouped a d))

products : (a b : ℕ) → a * b + a * b ≤ b * b + a * a
products a b = go (dec_le a b)
  where
    go : Dec (a ≤ b) → a * b + a * b ≤ b * b + a * a
    go (yes h) = products_of_more a b h
    go (no h) = omega (arith, products_of_more b a (omega arith), mul_comm a b)

-- ---- a step
-- With q for n / r and m for one more than the next guess: n is below (q + 1) * r, and r + q is below m twice. So r * r + (q + 1) * r is at most m * r twice, and so at most
-- r * r + m * m.
above : (n r q m : ℕ) → n < suc q * r → r + q < m + m → n < m * m
above n r q m below twice =
    let p : (r + suc q) * r ≤ (m + m) * r = mul-le-mul (omega arith) (omega arith) in
    omega (arith, p, add-mul r (suc q) r, add-mul m m r, products m r)

-- One more than the next guess, squared, is above n.
pub step_above : (n r : ℕ) → 0 < r → n < ((r + n / r) / 2 + 1) * ((r + n / r) / 2 + 1)
step_above n r h = above n r (n / r) ((r + n / r) / 2 + 1) ((div-lt_iff_lt-mul h).0 (omega arith)) (omega arith)

-- A number whose square is above another is above 0.
pub square_some : (n r : ℕ) → n < r * r → 0 < r
square_some n zero h = absurd (omega arith)
square_some n (suc r) h = omega arith

-- The next guess is smaller.
pub step_below : (n r : ℕ) → n < r * r → (r + n / r) / 2 < r
step_below n r h = let q : n / r < r = (div-lt_iff_lt-mul (square_some n r h)).1 h in omega arith

-- ---- the first guess
-- A guess whose square is above n is at least the root.
pub square_above : (n r : ℕ) → n < r * r → n < (r + 1) * (r + 1)
square_above n r h = let p : r * r ≤ (r + 1) * (r + 1) = mul-le-mul (omega arith) (omega arith) in omega arith

-- The square of 2 ^ s, for s half of m rounded up, is above every number of m bits.
pub half_length : (n m : ℕ) → n < 2 ^ m → n < 2 ^ ((m + 1) / 2) * 2 ^ ((m + 1) / 2)
half_length n m h =
    let s = (m + 1) / 2 in
    let p : 2 ^ m ≤ 2 ^ (s + s) = pow_mono (omega arith) in
    subst (λ x. n < x) (pow-add 2 s s) (lt_of_lt_of_le h p)
