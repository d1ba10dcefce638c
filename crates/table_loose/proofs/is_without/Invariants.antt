-- What is kept: it is told of the numbers that are passed.
use Rattle.whole.specs.Tests.{Told}
use Rattle.table_loose.specs.Loose.{WithoutTo, WithTo}
use Rattle.table_loose.proofs.is_without.Given as goal

abbrev pub invariant-loop-x : goal.invariant-loop-x
invariant-loop-x l = Told l.without (WithoutTo l.us l.u l.x-index) (WithTo l.us l.u l.x-index)
