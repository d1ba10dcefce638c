-- The first i numbers stand at the front as bytes, and behind them what stood there.
use Rattle.std.proofs.Common.{length}
use Rattle.lent_little.proofs.Bytes.{Written}
use Rattle.table_neighbours.proofs.Same.{number}
use Rattle.table_neighbours.proofs.lay.Given as goal

abbrev pub invariant-loop-i : goal.invariant-loop-i
invariant-loop-i l = Written 2 number l.opposite (length l.opposite) l.initial.out l.i l.out
