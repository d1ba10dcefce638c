-- What is kept: the touched ones of the first k sides are listed, and with those of the others they are all.
use Rattle.std.proofs.Common.{◌≡◌, ◌++◌, ◌≤◌, take, drop}
use Rattle.table_spread.specs.Spreading.{touched_from, touched_sides}
use Rattle.table_spread.proofs.touched.Given as goal

abbrev pub invariant-loop-k : goal.invariant-loop-k
invariant-loop-k l = (l.n ≤ l.k) × (take l.n l.sides ++ touched_from l.k (drop l.k l.counts) ≡ touched_sides l.counts)
