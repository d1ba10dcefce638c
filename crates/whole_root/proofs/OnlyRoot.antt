-- The whole root is the only number whose square is at most n and whose successor's square is above n. The idea: squares grow with their numbers, so that of two such
-- numbers neither is the larger. Assumes nothing.
use mathlib.Core.Path.{◌≡◌, subst}
use mathlib.Core.Bool.{false}
use Prim.Native.Nat.{ℕ, zero, suc, ◌+◌, ◌*◌, ◌≤◌, ◌<◌}
use native.Mathlib.Omega.{arith}
use native.Mathlib.Decide.{dec_le}
use native.Mathlib.Nat.{mul-le-mul}
use borrow.Author.Tests.{leb-true, leb-false}
use lib.Dec.{leb}
use Rattle.whole.proofs.Tests.{by_equal}
use Rattle.whole_root.specs.Root.{root_up_to, root}

-- Its square is at most n,
up_to_low : (m n : ℕ) → root_up_to m n * root_up_to m n ≤ n
up_to_low zero n = omega arith
up_to_low (suc m) n = by_equal (λ r. r * r ≤ n) (leb (suc m * suc m) n) (suc m) (root_up_to m n) (leb-true (suc m * suc m) n) (λ e. up_to_low m n)

-- and no number up to m with such a square is larger.
up_to_high : (m n k : ℕ) → k ≤ m → k * k ≤ n → k ≤ root_up_to m n
up_to_high zero n k h s = h
up_to_high (suc m) n k h s = by_equal (λ r. k ≤ r) (leb (suc m * suc m) n) (suc m) (root_up_to m n) (λ e. h) (λ e. go e (dec_le k m) (λ l. up_to_high m n k l s))
  where
    go : leb (suc m * suc m) n ≡ false → Dec (k ≤ m) → (k ≤ m → k ≤ root_up_to m n) → k ≤ root_up_to m n
    go e (yes l) f = f l
    go e (no l) f = let z : k ≡ suc m = omega arith in absurd (omega (arith, leb-false (suc m * suc m) n e, subst (λ k. k * k ≤ n) z s))

-- ---- the root
-- Its square is at most n,
pub root_low : (n : ℕ) → root n * root n ≤ n
unfolding root
root_low n = up_to_low n n

-- no number with such a square is larger,
pub root_most : (n k : ℕ) → k * k ≤ n → k ≤ root n
unfolding root
root_most n k h = up_to_high n n k (small k h) h
  where
    small : (k : ℕ) → k * k ≤ n → k ≤ n
    small zero h = omega arith
    small (suc k) h = let p : suc k * 1 ≤ suc k * suc k = mul-le-mul (omega arith) (omega arith) in omega (arith, p)

-- and the square of the next number is above n.
pub root_high : (n : ℕ) → n < (root n + 1) * (root n + 1)
root_high n = go (dec_le ((root n + 1) * (root n + 1)) n)
  where
    go : Dec ((root n + 1) * (root n + 1) ≤ n) → n < (root n + 1) * (root n + 1)
    go (yes h) = absurd (omega (arith, root_most n (root n + 1) h))
    go (no h) = omega arith

-- It is the only such number.
pub only_root : (n r : ℕ) → r * r ≤ n → n < (r + 1) * (r + 1) → r ≡ root n
only_root n r low high = go (dec_le (root n) r)
  where
    go : Dec (root n ≤ r) → r ≡ root n
    go (yes h) = omega (arith, root_most n r low)
    go (no h) = let p : (r + 1) * (r + 1) ≤ root n * root n = mul-le-mul (omega arith) (omega arith) in absurd (omega (arith, p, root_low n))

-- The root of a number above 0 is above 0,
pub root_some : (n : ℕ) → 1 ≤ n → 1 ≤ root n
root_some n h = root_most n 1 (omega arith)

-- and a number below a square has a smaller root.
pub root_below : (n k : ℕ) → n < k * k → root n < k
root_below n k h = go (dec_le k (root n))
  where
    go : Dec (k ≤ root n) → root n < k
    go (yes l) = let p : k * k ≤ root n * root n = mul-le-mul l l in absurd (omega (arith, p, root_low n))
    go (no l) = omega arith
