-- `table_neighbours::write` meets its contract: the numbers are 2 bytes each. Assumes nothing.
use Rattle.std.proofs.Common.{refl, sym, ◌∙◌, ap, subst, ◌++◌, ◌*◌, drop, arith}
use Rattle.lent.specs.Answered.{Answered}
use Rattle.lent.proofs.Answered.{answered_short, answered_bytes}
use Rattle.table_neighbours.specs.Held.{held_index, whole_outcome}
use Rattle.table_neighbours.proofs.Same.{two_each}
use Rattle.table_neighbours.proofs.write.Goals as goal

pub returns-then-out-n : goal.returns-then-out-n
returns-then-out-n c = let o = c.args.opposite.now in answered_short _ _ _ (held_index o) refl (omega (arith, two_each o))

pub returns : goal.returns
returns c =
    let a = c.args in
    let o = a.opposite.now in
    let left = c.lay.new.out in
    subst (λ n. Answered (whole_outcome (held_index o)) a.out.now (n * 256) left) (two_each o)
    (answered_bytes _ _ _ (held_index o) refl _ (omega (arith, two_each o)) (c.lay.ensures ∙ ap (λ n. held_index o ++ drop n a.out.now) (sym (two_each o))))
