-- The sides of the triangles gone through have been met. Assumes nothing.
use Rattle.std.proofs.Common.{length}
use Rattle.repair_choices.specs.Adding.{sides_met, Adding}
use Rattle.repair_longest.specs.Held.{lengths_held}
use Rattle.repair_longest.proofs.longest.Given as goal

abbrev pub invariant-loop-u : goal.invariant-loop-u
invariant-loop-u l = Adding (lengths_held l.table (length l.opposite)) l.opposite l.numbers (sides_met l.group l.first l.u-index) l.sums l.best
