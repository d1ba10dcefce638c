-- The first t sets have their marks, and behind them stands what stood there.
use Rattle.std.proofs.Common.{◌≡◌, ◌++◌, take, drop}
use Rattle.owners_marks.specs.Sets.{marked}
use Rattle.owners_marks.proofs.mark.Given as goal

abbrev pub invariant-loop-t : goal.invariant-loop-t
invariant-loop-t l = l.sets ≡ marked l.k (take l.t l.labels) l.initial.sets ++ drop l.t l.initial.sets
