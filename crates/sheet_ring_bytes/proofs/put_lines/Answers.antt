-- One more line is written at a time, and the header and the lines are the whole. Assumes nothing.
use Rattle.std.proofs.Common.{arith}
use Rattle.sheet_ring_bytes.proofs.Putting.{lines_more, lines_all, whole_put}
use Rattle.sheet_ring_bytes.proofs.put_lines.Goals as goal

pub loop-r-preserved : goal.loop-r-preserved
loop-r-preserved c =
    let a = c.args in
    lines_more a.numbers.now a.order.now a.ends.now c.put.new.out c.loop-r.invariant _ c.room.ensures (omega arith) c.put_line.ensures

pub returns : goal.returns
returns c =
    let a = c.args in
    whole_put a.numbers.now a.order.now a.ends.now a.out.now c.put.ensures (lines_all a.numbers.now a.order.now a.ends.now c.put.new.out c.loop-r.invariant (omega arith))
