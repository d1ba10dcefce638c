-- What is kept: the edges gone through are counted, each of them a side or the reverse of one, and the others are still to come.
use Rattle.std.proofs.Common.{◌≡◌, List, ◌≤◌, length, drop}
use Rattle.plane.specs.Points.{Edge}
use Rattle.table_sides.specs.Numbered.{number_in}
use Rattle.table_count.specs.Counting.{Looked, first_pieces}
use Rattle.table_tally.specs.Direct.{Counted}
use Rattle.table_tally.proofs.count_edges.Given as goal

abbrev pub invariant-loop-u : goal.invariant-loop-u
invariant-loop-u l =
    let i = length l.yielded in
    record {
      rest_from : l.u-iterator.a.rest.now ≡ drop i l.from;
      rest_to : l.u-iterator.b.rest.now ≡ drop i l.to;
      within : i ≤ length l.from;
      rank : l.b ≡ number_in l.last l.corners;
      counted : (sides : List Edge) → Looked sides l.corners l.index → length l.counts ≡ length sides → Counted sides (first_pieces l.corners l.from l.to i) l.counts;
    }
