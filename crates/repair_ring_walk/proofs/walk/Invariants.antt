-- What is laid down and what follows from s on are together the ring. Assumes nothing.
use Rattle.std.proofs.Common.{◌<◌, length}
use Rattle.repair_follower.specs.Follower.{follower}
use Rattle.repair_ring_walk.proofs.Walking.{Walking}
use Rattle.repair_ring_walk.proofs.walk.Given as goal

abbrev pub invariant-loop-n : goal.invariant-loop-n
invariant-loop-n l = Walking (follower l.opposite l.owners l.polygon) l.first l.at l.initial.order l.initial.taken l.n l.s l.order l.taken × (l.s < length l.opposite)
