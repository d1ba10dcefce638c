-- One mark more.
use Rattle.std.proofs.Common.{add-one, arith}
use Rattle.owners_marks.proofs.Owning.{next_set, one_more}
use Rattle.owners_marks.proofs.mark.Goals as goal

pub loop-t-preserved : goal.loop-t-preserved
loop-t-preserved c =
    let k = c.args.k in
    let t = c.loop-t.t in
    let s = c.args.labels.now in
    let x = c.args.sets.now in
    rw (c.with_mark.ensures, c.loop-t.invariant, next_set k t s x (omega arith) (omega arith), add-one) (one_more k t s x (omega arith) (omega arith))
