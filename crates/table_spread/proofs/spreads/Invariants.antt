-- What is kept: the first i triangles in the group are spread from, and all labelled ones are in each set with these counts for its boundary.
use Rattle.std.proofs.Common.{◌-◌, ◌≤◌, length}
use Rattle.table_spread.specs.Spreading.{Grown, Forced, SpreadFrom}
use Rattle.table_spread.proofs.spreads.Given as goal

abbrev pub invariant-loop-i : goal.invariant-loop-i
invariant-loop-i l =
    record {
      grown : Grown l.initial.labels l.initial.group l.first l.labels l.group l.n;
      forced : Forced l.opposite l.counts l.labels;
      from : SpreadFrom l.opposite l.counts l.labels l.group l.i;
      before : l.i ≤ l.n;
    }

abbrev pub decreases-loop-i : goal.decreases-loop-i
decreases-loop-i l = length l.initial.group - l.i
