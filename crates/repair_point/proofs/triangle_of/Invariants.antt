-- The point belongs to none of the first t triangles. Assumes nothing.
use Rattle.repair_point.proofs.Finding.{NoneBefore}
use Rattle.repair_point.proofs.triangle_of.Given as goal

abbrev pub invariant-loop-t : goal.invariant-loop-t
invariant-loop-t l = NoneBefore (record { x = l.x; y = l.y }) l.table l.t
