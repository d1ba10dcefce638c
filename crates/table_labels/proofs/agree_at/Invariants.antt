-- The counts at the first of these sides are the shares of the labelled set.
use Rattle.std.proofs.Common.{ℕ, ◌<◌, get_or}
use Rattle.table.specs.Sides.{SharesAt}
use Rattle.table_labels.proofs.agree_at.Given as goal

abbrev pub invariant-loop-k : goal.invariant-loop-k
invariant-loop-k l = (j : ℕ) → j < l.k-index → SharesAt l.opposite l.counts l.labels (get_or l.sides j 0)
