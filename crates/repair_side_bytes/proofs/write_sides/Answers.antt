-- No side is written at first, and then one more at a time. Assumes nothing.
use Rattle.std.proofs.Common.{arith, length}
use Rattle.lent_little.specs.Held.{side_held}
use Rattle.lent_little.proofs.Bytes.{side_length, written_none, written_more}
use Rattle.repair_side_bytes.proofs.write_sides.Goals as goal

pub loop-i-init : goal.loop-i-init
loop-i-init c =
    let a = c.args in
    written_none 16 (side_held a.numbers.now) (side_length a.numbers.now) a.sides.now (length a.sides.now) a.out.now

pub loop-i-preserved : goal.loop-i-preserved
loop-i-preserved c =
    let n = c.args.numbers.now in
    written_more 16 (side_held n) (side_length n) c.loop-i.invariant c.put_side.new.out (omega arith) (omega arith) (omega arith) c.put_side.ensures
