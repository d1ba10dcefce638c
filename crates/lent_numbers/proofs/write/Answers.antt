-- `write` meets its contract: each turn writes one number more behind the others.
use Rattle.std.proofs.Common.{arith}
use Rattle.lent_little.specs.Held.{held_bytes}
use Rattle.lent_little.proofs.Bytes.{held_length, written_none, written_more}
use Rattle.lent_numbers.proofs.write.Goals as goal

pub loop-i-init : goal.loop-i-init
loop-i-init c = written_none 4 held_bytes held_length c.args.numbers.now c.args.n c.args.out.now

pub loop-i-preserved : goal.loop-i-preserved
loop-i-preserved c = written_more 4 held_bytes held_length c.loop-i.invariant c.put.new.out (omega arith) (omega arith) (omega arith) c.put.ensures
