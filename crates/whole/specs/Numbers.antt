-- Tests on whole numbers that compute, and a bound on their size. The order is the library's: `lt_z`, `le_z` and `◌<ℤ◌`, `◌≤ℤ◌` of lib.Signed.
use Rattle.std.specs.Prelude.{Bool, false, cond, ℕ, ◌≤◌, eqb, ℤ, pos, negsuc, nat_abs}
use lib.Signed.{le_z}

-- Two whole numbers are equal.
abbrev pub eq_z : ℤ → ℤ → Bool
eq_z (pos m) (pos n) = eqb m n
eq_z (pos m) (negsuc n) = false
eq_z (negsuc m) (pos n) = false
eq_z (negsuc m) (negsuc n) = eqb m n

-- The smaller and the greater of two numbers.
unfoldable pub smaller : ℤ → ℤ → ℤ
smaller z w = cond (le_z z w) z w

unfoldable pub greater : ℤ → ℤ → ℤ
greater z w = cond (le_z z w) w z

-- The number is from -n to n.
pub record Within (n : ℕ) (z : ℤ) : Type 0 where
  pub size : nat_abs z ≤ n
