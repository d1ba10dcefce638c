-- The first r lines are written, and with the others they are all. Assumes nothing.
use Rattle.sheet_ring_bytes.proofs.Putting.{Lines}
use Rattle.sheet_ring_bytes.proofs.put_lines.Given as goal

abbrev pub invariant-loop-r : goal.invariant-loop-r
invariant-loop-r l = Lines l.numbers l.order l.ends l.initial.out l.begin l.r l.out
