-- The first i of the list are the numbers of the corners that stand behind the count.
use Rattle.std.proofs.Common.{◌≡◌, length}
use Rattle.sheet_edges.proofs.Triangles.{Laying}
use Rattle.sheet_edges.proofs.corners.Given as goal

abbrev pub invariant-loop-i : goal.invariant-loop-i
invariant-loop-i l = (length l.keys ≡ length l.fn.keys) × Laying l.numbers l.keys l.i
