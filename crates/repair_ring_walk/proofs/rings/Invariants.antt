-- The rings laid down and those of the sides not gone through are together all rings, and the marks are the sides of those laid down. Assumes nothing.
use Rattle.std.proofs.Common.{◌≡◌, length}
use Rattle.repair_follower.specs.Follower.{follower}
use Rattle.repair_ring_walk.proofs.Ringing.{Ringing}
use Rattle.repair_ring_walk.proofs.rings.Given as goal

abbrev pub invariant-loop-k : goal.invariant-loop-k
invariant-loop-k l = Ringing (follower l.opposite l.owners l.polygon) l.sides l.initial.order l.initial.ends l.n l.r l.k-index l.order l.ends l.taken × (length l.taken ≡ 3072)
