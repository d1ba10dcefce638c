-- The index is the table's own exactly if it is from side i on.
use Rattle.std.proofs.Common.{◌≡◌}
use Rattle.table_neighbours.specs.Neighbours.{same_bytes}
use Rattle.table_neighbours.specs.Held.{held_index}
use Rattle.table_neighbours.proofs.Same.{from_on}
use Rattle.table_neighbours.proofs.is_own.Given as goal

abbrev pub invariant-loop-i : goal.invariant-loop-i
invariant-loop-i l = same_bytes l.index (held_index l.opposite) ≡ from_on l.index l.opposite l.i
