-- `with_mark` meets its contract: 1 shifted by k below 64 is 2 ^ k, and a set below 2 ^ k has room for it. Assumes nothing.
use borrow.Author.Rules.{rules}
use mathlib.Core.Path.{◌≡◌, ◌∙◌}
use Prim.Native.Nat.{ℕ, suc, ◌*◌, ◌%◌, ◌^◌, ◌<◌}
use native.Mathlib.Nat.{one-mul, pow-suc}
use native.Mathlib.Omega.{arith}
use lib.Pow.{shl_exact, pow_mono}
use Rattle.owners_marks.proofs.with_mark.Statement.{statement}
use Rattle.owners_marks.proofs.with_mark.Tie as tie

shifted : (k : ℕ) → k < 64 → 1 * 2 ^ k % 2 ^ 64 ≡ 2 ^ k
shifted k h = shl_exact {a = 1} 1 k 64 (omega arith) (omega arith) ∙ one-mul (2 ^ k)

add_result : tie.Need-overflow_add-result
add_result c =
    let k = c.args.k in
    let e = pow-suc 2 k in
    let m = pow_mono {i = suc k} {j = 64} (omega arith) in
    let s = shifted k c.requires.0 in omega arith

returns : tie.Need-returns-then-label
returns c = rw (c.if-label.true, shifted c.args.k c.requires.0) (omega arith)

returns_2 : tie.Need-returns
returns_2 c = rw c.if-label.false (omega arith)

pub with_mark_spec : {M : Type 1} → statement M
with_mark_spec = tie.close (tie.spec (λ c. search rules) add_result returns returns_2)
