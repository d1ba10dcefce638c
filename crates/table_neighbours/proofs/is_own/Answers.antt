-- `table_neighbours::is_own` meets its contract: lengths that differ tell, and else the numbers, side by side. Assumes nothing.
use Rattle.std.proofs.Common.{sym, ◌∙◌, ap, ◌&&◌, ◌+◌, arith}
use Rattle.table_neighbours.specs.Held.{held_index}
use Rattle.table_neighbours.proofs.Same.{other_length, two_each, from_on, further, at_end}
use Rattle.table_neighbours.proofs.is_own.Goals as goal

pub returns-then-index-opposite : goal.returns-then-index-opposite
returns-then-index-opposite c = let a = c.args in sym (other_length a.index.now (held_index a.opposite.now) (λ e. omega (arith, e ∙ two_each a.opposite.now)))

pub loop-i-preserved : goal.loop-i-preserved
loop-i-preserved c =
    let a = c.args in
    let l = c.loop-i in
    l.invariant ∙ further a.index.now a.opposite.now l.i _ (omega arith) (omega arith) c.triangle_of.ensures c.stands.ensures ∙ ap (λ b. b && from_on a.index.now a.opposite.now (l.i + 1)) c.if-not-stands.false

pub returns-then-not-stands : goal.returns-then-not-stands
returns-then-not-stands c =
    let a = c.args in
    let l = c.loop-i in
    sym (l.invariant ∙ further a.index.now a.opposite.now l.i _ (omega arith) (omega arith) c.triangle_of.ensures c.stands.ensures ∙ ap (λ b. b && from_on a.index.now a.opposite.now (l.i + 1)) c.if-not-stands.true)

pub returns : goal.returns
returns c = let a = c.args in sym (c.loop-i.invariant ∙ at_end a.index.now a.opposite.now c.loop-i.i (omega arith) (omega arith))
