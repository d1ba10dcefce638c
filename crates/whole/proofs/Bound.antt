-- Sizes of whole numbers, for the numbers of the code: sums and products of small numbers are small, and what is small fits.
-- Assumes nothing.
use mathlib.Core.Path.{◌≡◌, refl}
use Prim.Native.Nat.{ℕ, zero, suc, ◌+◌, ◌*◌, ◌^◌, ◌≤◌, ◌<◌}
use native.Mathlib.Omega.{arith}
use native.Mathlib.Nat.{mul-le-mul}
use lib.IntN.{ℤ, pos, negsuc, neg_ℤ, nat_abs, ◌+ℤ◌, ◌-ℤ◌, ◌*ℤ◌}
use lib.Signed.{mag}
use mir.Syntax.{w64}
use mir.Val.{SFits, to_z, of_z}
use mir.Facts.{to_z-of_z}
use Rattle.whole.specs.Numbers.{Within}
use Rattle.whole.proofs.Int.{up, down, is_add, is_neg}

-- The size of a number is the sum of its two parts, of which one is 0.
size : (z : ℤ) → nat_abs z ≡ up z + down z
size (pos n) = omega arith
size (negsuc n) = omega arith

pub size_neg : (z : ℤ) → nat_abs (neg_ℤ z) ≡ nat_abs z
size_neg (pos zero) = refl
size_neg (pos (suc n)) = refl
size_neg (negsuc n) = refl

-- A number that is a − b is no larger than both together.
size_of : (z : ℤ) (a b : ℕ) → up z + b ≡ a + down z → nat_abs z ≤ a + b
size_of (pos n) a b h = omega arith
size_of (negsuc n) a b h = omega arith

pub within_add : (m n : ℕ) (z w : ℤ) → Within m z → Within n w → Within (m + n) (z +ℤ w)
within_add m n z w h k = record { size = omega (arith, size z, size w, size_of (z +ℤ w) (up z + up w) (down z + down w) (is_add z w (up z) (down z) (up w) (down w) refl refl)) }

pub within_sub : (m n : ℕ) (z w : ℤ) → Within m z → Within n w → Within (m + n) (z -ℤ w)
within_sub m n z w h k = within_add m n z (neg_ℤ w) h (record { size = rw (size_neg w) k.size })

pub within_mul : (m n : ℕ) (z w : ℤ) → Within m z → Within n w → Within (m * n) (z *ℤ w)
within_mul m n (pos a) (pos b) h k = record { size = mul-le-mul h.size k.size }
within_mul m n (pos a) (negsuc b) h k = record { size = rw (size_neg (pos (a * suc b))) (mul-le-mul h.size k.size) }
within_mul m n (negsuc a) (pos b) h k = record { size = rw (size_neg (pos (suc a * b))) (mul-le-mul h.size k.size) }
within_mul m n (negsuc a) (negsuc b) h k = record { size = mul-le-mul h.size k.size }

-- Two naturals up to n are no farther apart than n.
pub within_gap : (n u v : ℕ) → u ≤ n → v ≤ n → Within n (pos v -ℤ pos u)
within_gap n u v h k = go (pos v -ℤ pos u) (is_add (pos v) (neg_ℤ (pos u)) v 0 0 u refl (is_neg (pos u) u 0 refl))
  where
    go : (z : ℤ) → up z + (0 + u) ≡ v + 0 + down z → Within n z
    go (pos a) e = record { size = omega arith }
    go (negsuc a) e = record { size = omega arith }

pub within_fits : (n : ℕ) (z : ℤ) → n < 2 ^ 63 → Within n z → SFits w64 z
within_fits n (pos a) l h = record { sfits = omega arith }
within_fits n (negsuc a) l h = record { sfits = omega arith }

-- A small number is read back from its 64 bits as it was.
pub exact : (n : ℕ) (z : ℤ) → n < 2 ^ 63 → Within n z → to_z w64 (of_z w64 z) ≡ z
exact n z l h = to_z-of_z {w = w64} (within_fits n z l h)

-- A number that a function gave fits, so it is read back as it was.
pub returned : (z : ℤ) → mag z < 2 ^ 63 → to_z w64 (of_z w64 z) ≡ z
returned z h = to_z-of_z {w = w64} (record { sfits = h })
