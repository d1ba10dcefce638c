-- `standing_of` meets its contract: the count of ones is the number of owners, and the trailing zeros tell the first of them. Assumes nothing.
use mathlib.Core.Path.{◌≡◌, refl, sym}
use Prim.Native.Nat.{ℕ, zero, suc, ◌≤◌}
use native.Mathlib.Omega.{arith}
use lib.Count.{ones, trailing_le}
use Rattle.owners_marks.proofs.Bits.{none_stands, one_stands, more_stand}
use Rattle.owners_marks.proofs.standing_of.Statement.{statement}
use Rattle.owners_marks.proofs.standing_of.Tie as tie

returns : tie.Need-returns-then-n-eq0
returns c = sym (none_stands c.args.set c.ranges.set.fits c.if-n-eq0.true)

returns_2 : tie.Need-returns-then-n-eq1
returns_2 c = sym (one_stands c.args.set c.ranges.set.fits c.if-n-eq1.true)

returns_3 : tie.Need-returns
returns_3 c = sym (more_stand c.args.set c.ranges.set.fits (many (ones c.args.set) c.if-n-eq0.false c.if-n-eq1.false))
  where
    many : (n : ℕ) → (n ≡ 0 → ⊥) → (n ≡ 1 → ⊥) → 2 ≤ n
    many zero p q = absurd (p refl)
    many (suc zero) p q = absurd (q refl)
    many (suc (suc n)) p q = omega arith

pub standing_of_spec : {M : Type 1} → statement M
standing_of_spec = tie.close (tie.spec returns (λ c. omega (arith, trailing_le 64 c.args.set)) returns_2 returns_3)
