-- Held net counts: a count held as itself plus 2,147,483,648 is a difference of two numbers exactly if the sums across are equal.
-- Assumes nothing.
use mathlib.Core.Path.{◌≡◌, ap}
use mathlib.Core.Logic.{◌↔◌}
use Prim.Native.Nat.{ℕ, ◌+◌}
use native.Mathlib.Omega.{arith}
use lib.IntN.{ℤ, pos, ◌+ℤ◌, ◌-ℤ◌}
use Rattle.whole.proofs.Int.{zify, parts}
use Rattle.table.specs.Sides.{net_of}

gaps : (c z m x : ℤ) → (c +ℤ x ≡ z +ℤ m) ↔ (c -ℤ z ≡ m -ℤ x)
gaps c z m x = (
  λ e. rw (parts c, parts z, parts m, parts x) (simp zify (omega (arith, simp zify at (rw (parts c, parts z, parts m, parts x) at e)))),
  λ e. rw (parts c, parts z, parts m, parts x) (simp zify (omega (arith, simp zify at (rw (parts c, parts z, parts m, parts x) at e)))),
)

pub net_is : (c x m : ℕ) → (c + x ≡ 2147483648 + m) ↔ (net_of c ≡ pos m -ℤ pos x)
net_is c x m = (λ e. (gaps (pos c) (pos 2147483648) (pos m) (pos x)).0 (ap pos e), λ e. let h = (gaps (pos c) (pos 2147483648) (pos m) (pos x)).1 e in cc h)
