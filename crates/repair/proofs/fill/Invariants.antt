-- The triangles of the group gone through are given. Assumes nothing.
use Rattle.std.proofs.Common.{◌+◌}
use Rattle.repair.specs.Giving.{Filled}
use Rattle.repair.proofs.fill.Given as goal

abbrev pub invariant-loop-u : goal.invariant-loop-u
invariant-loop-u l = Filled l.group l.first (l.first + l.u-index) l.owner l.initial.owners l.owners
