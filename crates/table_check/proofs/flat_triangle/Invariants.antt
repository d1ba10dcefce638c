-- The triangles before t have double areas above 0.
use Rattle.table.proofs.Faults.{Above}
use Rattle.table_check.proofs.flat_triangle.Given as goal

abbrev pub invariant-loop-t : goal.invariant-loop-t
invariant-loop-t l = Above l.keys l.t
