-- One more end is written at a time, and the header, the first corner and the ends are the whole line. Assumes nothing.
use Rattle.std.proofs.Common.{arith, ◌+◌}
use Rattle.sheet_ring_bytes.proofs.Putting.{ends_more, ends_all, line_put}
use Rattle.sheet_ring_bytes.proofs.put_line.Goals as goal

pub loop-i-preserved : goal.loop-i-preserved
loop-i-preserved c = ends_more _ _ _ _ c.loop-i.invariant _ (omega arith) c.put_point-in-loop-i.ensures

pub returns : goal.returns
returns c =
    let a = c.args in
    line_put a.numbers.now a.ring.now a.to a.out.now c.requires.1 c.put.ensures c.put_point.ensures
    (ends_all a.numbers.now a.ring.now (a.to + 25) c.put_point.new.out c.loop-i.invariant (omega arith))
