-- A side that counts once has its own triangle taken in.
use Rattle.std.proofs.Common.{arith}
use Rattle.table_spread.proofs.Spreading.{may_take, entered}
use Rattle.table_spread.proofs.enter.Goals as goal

pub meet-requires : goal.meet-requires
meet-requires c = may_take c.requires.1 _ (omega (arith, c.requires.0, c.requires.3))

pub returns : goal.returns
returns c = entered c.requires.1 c.args.counts.now c.requires.0 c.requires.2 c.args.k c.requires.3 (omega arith) c.meet.ensures
