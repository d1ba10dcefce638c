-- What is found from s on is what is found from the first side on. Assumes nothing.
use Rattle.std.proofs.Common.{length}
use Rattle.repair_follower.specs.Follower.{turned_to, own_side, anticlockwise}
use Rattle.repair_follower.proofs.Along.{Along}
use Rattle.repair_follower.proofs.follower.Given as goal

abbrev pub invariant-loop : goal.invariant-loop
invariant-loop l = Along (own_side l.owners l.polygon) (anticlockwise l.opposite) (length l.opposite) (turned_to l.opposite l.k) l.counter l.s
