-- Each turn lays down one number more, of 8 bytes.
use Rattle.std.proofs.Common.{arith}
use Rattle.lent_little.specs.Bytes.{set_bytes}
use Rattle.lent_little.proofs.Bytes.{set_length, written_none, written_more}
use Rattle.lent_sets.proofs.write.Goals as goal

pub loop-i-init : goal.loop-i-init
loop-i-init c = written_none 8 set_bytes set_length c.args.numbers.now c.args.n c.args.out.now

pub loop-i-preserved : goal.loop-i-preserved
loop-i-preserved c = written_more 8 set_bytes set_length c.loop-i.invariant c.put.new.out (omega arith) (omega arith) (omega arith) c.put.ensures
