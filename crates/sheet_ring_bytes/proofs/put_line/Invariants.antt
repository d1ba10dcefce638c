-- The ends of the first i sides are written, and with those of the others they are all. Assumes nothing.
use Rattle.std.proofs.Common.{◌+◌}
use Rattle.sheet_ring_bytes.proofs.Putting.{Ends}
use Rattle.sheet_ring_bytes.proofs.put_line.Given as goal

abbrev pub invariant-loop-i : goal.invariant-loop-i
invariant-loop-i l = Ends l.numbers l.ring (l.to + 25) l.initial.out l.i l.out
