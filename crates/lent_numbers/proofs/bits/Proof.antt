-- `lent_numbers::bits` meets its contract: a negative number is held in two's complement. Assumes nothing.
use mathlib.Core.Path.{refl}
use Prim.Native.Nat.{◌≤◌}
use native.Mathlib.Omega.{arith}
use borrow.Author.Tests.{lt-ltb, le-ltb}
use borrow.Author.Rules.{rules}
use Rattle.lent_numbers.proofs.bits.Statement.{statement}
use Rattle.lent_numbers.proofs.bits.Tie as tie

returns : tie.Need-returns-then-h-lt-OFFSET
returns c = rw (lt-ltb _ _ c.if-h-lt-OFFSET.true) (omega arith)

returns_2 : tie.Need-returns-else-h-lt-OFFSET
returns_2 c = let h : 10_000_000 ≤ c.args.h = omega arith in rw (le-ltb _ _ h) refl

pub bits_spec : {M : Type 1} → statement M
bits_spec = tie.close (tie.spec (λ c. search rules) returns returns_2)
