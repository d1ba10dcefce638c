-- The counts at the first k sides are the shares of the labelled set.
use Rattle.std.proofs.Common.{ℕ, ◌<◌}
use Rattle.table.specs.Sides.{SharesAt}
use Rattle.table_labels.proofs.agree.Given as goal

abbrev pub invariant-loop-k : goal.invariant-loop-k
invariant-loop-k l = (j : ℕ) → j < l.k → SharesAt l.opposite l.counts l.labels j
