-- What is found from s on is what is found from k on. Assumes nothing.
use Rattle.std.proofs.Common.{length}
use Rattle.repair_follower.specs.Follower.{on_frame, clockwise}
use Rattle.repair_follower.proofs.Along.{Along}
use Rattle.repair_follower.proofs.along_frame.Given as goal

abbrev pub invariant-loop : goal.invariant-loop
invariant-loop l = Along (on_frame l.opposite) (clockwise l.opposite) (length l.opposite) l.k l.counter l.s
