-- What is walked over one behind the other is emitted in one.
use Rattle.std.proofs.Common.{arith}
use Rattle.sheet_writer.proofs.Goes.{passes, stops, ends}
use Rattle.sheet_writer.proofs.pieces.Goals as goal

pub returns-in_err-v : goal.returns-in_err-v
returns-in_err-v c = rw c.from_residual.ensures (stops c.loop.invariant c.piece.new.out c.loop-test.true c.in_err-v.ensures)

pub loop-preserved : goal.loop-preserved
loop-preserved c = passes c.loop.invariant c.piece.new.out c.loop-test.true c.in_ok-v.v c.in_ok-v.ensures

pub returns : goal.returns
returns c = ends c.loop.invariant (omega arith)
