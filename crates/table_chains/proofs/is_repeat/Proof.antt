-- `table_chains::is_repeat` meets its contract: a side of the same triangle is none, and the codes are compared. Assumes nothing.
use mathlib.Core.Path.{◌≡◌, refl}
use mathlib.Core.Bool.{Bool, true, false}
use Prim.Native.Nat.{ℕ, ◌-◌, ◌%◌, ◌<◌}
use native.Mathlib.Omega.{arith}
use borrow.Author.Rules.{rules}
use borrow.Author.Tests.{eqb-true, eqb-false}
use lib.Dec.{eqb}
use lib.ListN.{get_or}
use Rattle.whole.specs.Tests.{Told}
use Rattle.table_chains.proofs.is_repeat.Statement.{statement}
use Rattle.table_chains.proofs.is_repeat.Tie as tie

-- What the comparison tells of a side of an earlier triangle.
compared : (x y : ℕ) (A : Type 0) → A → (b : Bool) → eqb x y ≡ b → Told b (A × (x ≡ y)) (A → x ≡ y → ⊥)
compared x y A a true e = (a, eqb-true x y e)
compared x y A a false e = λ _ q. eqb-false x y e q

returns_2 : tie.Need-returns
returns_2 c =
    let s = c in
    compared (get_or s.args.codes.now s.args.j 0) (get_or s.args.codes.now s.args.k 0) (s.args.j < s.args.k - s.args.k % 3) (omega arith) (eqb (get_or s.args.codes.now s.args.j 0) (get_or s.args.codes.now s.args.k 0)) refl

pub is_repeat_spec : {M : Type 1} → statement M
is_repeat_spec =
    tie.close
    (tie.spec
    (λ c. search rules)
    (λ c. search rules)
    (λ c. search rules)
    (λ c. search rules)
    (λ c. search rules)
    (λ c. search rules)
    returns_2)
