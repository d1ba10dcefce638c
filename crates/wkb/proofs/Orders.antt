-- The byte order that a number below 2 says. Assumes nothing.
use mathlib.Core.Path.{◌≡◌, refl, sym}
use mathlib.Core.Bool.{Bool, true, false}
use Prim.Native.Nat.{ℕ, ◌<◌}
use native.Mathlib.Omega.{arith}
use borrow.Author.Tests.{eq-eqb, ne_eqb, eqb-true, eqb-false}
use lib.Dec.{eqb}
use Rattle.wkb.specs.Standard.{order}

pub order_said : (b : ℕ) → b < 2 → order (eqb b 1) ≡ b
order_said b h = go (eqb b 1) refl
  where
    go : (t : Bool) → eqb b 1 ≡ t → order t ≡ b
    go true e = sym (eqb-true b 1 e)
    go false e = let q = eqb-false b 1 e in omega arith

pub said_order : (b : ℕ) (little : Bool) → b ≡ order little → eqb b 1 ≡ little
said_order b true e = eq-eqb b 1 e
said_order b false e = ne_eqb b 1 (λ q. absurd (omega arith))
