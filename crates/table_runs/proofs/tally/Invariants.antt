-- What is kept: the first i edges are done, with all edges of their lines, and what is done is handled.
use Rattle.std.proofs.Common.{◌≡◌, List, length}
use Rattle.whole.specs.Sums.{All}
use Rattle.plane.specs.Points.{Edge}
use Rattle.table_count.specs.Counting.{Looked}
use Rattle.table_runs.specs.Runs.{ByLines, Through}
use Rattle.table_runs.proofs.tally.Given as goal

abbrev pub invariant-loop-i : goal.invariant-loop-i
invariant-loop-i l =
    record {
      no_begins : All (λ n. n ≡ 0) l.begins;
      no_ends : All (λ n. n ≡ 0) l.ends;
      done : ByLines l.from l.to l.i l.done;
      through : (sides : List Edge) → Looked sides l.corners l.index → length l.initial.counts ≡ length sides → Through sides l.corners l.from l.to l.counts l.done;
    }
