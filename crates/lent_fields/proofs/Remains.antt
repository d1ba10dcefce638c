-- That so many bytes remain, as the code asks it. Assumes nothing.
use borrow.Author.Tests.{le-leb, lt-leb, leb-true, leb-false}
use mathlib.Core.Path.{◌≡◌, refl, sym, ◌∙◌}
use mathlib.Core.Bool.{Bool, true, false}
use Prim.Native.Nat.{ℕ, ◌+◌, ◌-◌, ◌≤◌}
use native.Mathlib.Omega.{arith}
use lib.Dec.{leb}

-- A test of a difference is the test of the sum.
pub within : (t n k l : ℕ) → n ≤ l → t + n ≡ k → leb t (l - n) ≡ leb k l
within t n k l h q = go (leb t (l - n)) refl
  where
    go : (b : Bool) → leb t (l - n) ≡ b → leb t (l - n) ≡ leb k l
    go true e = let r = leb-true t (l - n) e in e ∙ sym (le-leb k l (omega arith))
    go false e = let r = leb-false t (l - n) e in e ∙ sym (lt-leb k l (omega arith))
