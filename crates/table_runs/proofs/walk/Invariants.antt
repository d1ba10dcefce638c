-- What is kept: the sums are what has begun and what has ended before this corner, and the corners before are walked.
use Rattle.std.proofs.Common.{◌≡◌, List, ◌≤◌, get_or}
use Rattle.plane.specs.Points.{Edge}
use Rattle.table_lines.specs.Lines.{begun_by, ended_by}
use Rattle.table_count.specs.Counting.{Looked, pieces_of}
use Rattle.table_runs.specs.Runs.{Open, Ready, Walked}
use Rattle.table_runs.proofs.walk.Given as goal

abbrev pub invariant-loop-k : goal.invariant-loop-k
invariant-loop-k l =
    record {
      begun : l.more ≡ begun_by l.corners l.a l.b l.from l.to l.k;
      ended : l.less ≡ ended_by l.corners l.a l.b l.from l.to l.k;
      ready : Ready l.corners l.a l.b l.k (get_or l.corners l.last 0) l.more l.less;
      walked : (sides : List Edge) → Looked sides l.corners l.index → Open sides (pieces_of l.corners l.from l.to) l.initial.counts → Walked sides l.corners l.from l.to l.a l.b l.initial.counts l.counts l.k;
      before : l.last ≤ l.k;
    }
