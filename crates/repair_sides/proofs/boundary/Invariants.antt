-- The sides laid down and those from k on that bound the polygon are together all of them, and behind those laid down the list is as it was. Assumes nothing.
use Rattle.std.proofs.Common.{length}
use Rattle.repair_sides.specs.Numbered.{bounds}
use Rattle.repair_sides.proofs.Laying.{Laying}
use Rattle.repair_sides.proofs.boundary.Given as goal

abbrev pub invariant-loop-k : goal.invariant-loop-k
invariant-loop-k l = Laying (bounds l.opposite l.owners l.polygon) (length l.opposite) l.initial.sides l.n l.k l.sides
