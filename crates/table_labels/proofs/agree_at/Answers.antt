-- Each of these sides compared is one more whose count is its share.
use Rattle.std.proofs.Common.{ap, not, get_or, below_more, arith}
use Rattle.whole.proofs.Sums.{all_from}
use Rattle.whole.proofs.Tests.{told_yes}
use Rattle.table.specs.Sides.{SharesAt}
use Rattle.table_labels.proofs.agree_at.Goals as goal

pub loop-k-preserved : goal.loop-k-preserved
loop-k-preserved c =
    let a = c.args in
    below_more (λ j. SharesAt a.opposite.now a.counts.now a.labels.now (get_or a.sides.now j 0)) c.loop-k.k-index c.loop-k.invariant (told_yes _ _ c.agrees.result (ap not c.if-not-agrees.false) c.agrees.ensures)

pub returns : goal.returns
returns c = let a = c.args in all_from (SharesAt a.opposite.now a.counts.now a.labels.now) 0 a.sides.now (λ j h. c.loop-k.invariant j (omega arith))
