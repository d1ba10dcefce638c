-- An unknown way is refused, and a known one is repaired in. Assumes nothing.
use Rattle.std.proofs.Common.{arith}
use Rattle.repair.proofs.Giving.{unknown_way, known_way}
use Rattle.repair.proofs.repair.Goals as goal

pub returns-then-way-gt1 : goal.returns-then-way-gt1
returns-then-way-gt1 c = unknown_way _ _ _ _ _ c.if-way-gt1.true

pub returns : goal.returns
returns c = known_way _ _ _ _ _ _ _ (omega arith) c.in_way.ensures
