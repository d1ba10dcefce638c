-- The largest number across the sides of the triangles gone through is at hand. Assumes nothing.
use Rattle.std.proofs.Common.{◌+◌}
use Rattle.repair.specs.Giving.{Best}
use Rattle.repair.proofs.highest.Given as goal

abbrev pub invariant-loop-u : goal.invariant-loop-u
invariant-loop-u l = Best l.opposite l.numbers l.group l.first (l.first + l.u-index) l.best
