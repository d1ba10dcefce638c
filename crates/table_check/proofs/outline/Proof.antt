-- `table_check::outline` meets its contract: the four corners of the frame stand in one list, and in the other from the second on. Assumes nothing.
use native.Mathlib.Omega.{arith}
use borrow.Author.Rules.{rules}
use lib.ListN.{length-set}
use Rattle.table_check.proofs.Framing.{stored_four, round}
use Rattle.table_check.proofs.outline.Statement.{statement}
use Rattle.table_check.proofs.outline.Tie as tie

returns : tie.Need-returns
returns c =
    let o = c in
    let a = c.key-a.ensures in
    let b = c.key-b.ensures in
    let d = c.key-c.ensures in
    let e = c.key-d.ensures in
    round o.args.f o.requires.0 _ _ (stored_four o.args.from.now o.requires.1 a b d e) (stored_four o.args.to.now o.requires.2 b d e a)

pub outline_spec : {M : Type 1} → statement M
outline_spec =
    tie.close
    (tie.spec
    (λ c κs. search rules)
    (λ c κs. search rules)
    (λ c κs. search rules)
    (λ c κs. search rules)
    (λ c. omega arith)
    (λ c. simp length-set (omega arith))
    (λ c. simp length-set (omega arith))
    (λ c. simp length-set (omega arith))
    (λ c. omega arith)
    (λ c. simp length-set (omega arith))
    (λ c. simp length-set (omega arith))
    (λ c. simp length-set (omega arith))
    (λ c. search rules)
    (λ c. search rules)
    returns)
