-- In the end all edges are done, so all are handled.
use Rattle.std.proofs.Common.{arith}
use Rattle.table_runs.proofs.Walks.{through_all}
use Rattle.table_runs.proofs.tally.Goals as goal

pub returns : goal.returns
returns c =
    let l = c.loop-i in
    let a = c.args in
    (l.invariant.no_begins, l.invariant.no_ends, λ sides looked n. through_all sides a.corners.now a.from.now a.to.now l.counts l.done l.i (omega arith) l.invariant.done (l.invariant.through sides looked n))
