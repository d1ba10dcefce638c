-- Whole regions are given, and the gaps before t are met. Assumes nothing.
use Rattle.std.proofs.Common.{length}
use Rattle.repair_choices.specs.Choices.{choice_by}
use Rattle.repair_longest.specs.Held.{lengths_held}
use Rattle.repair.specs.Giving.{State}
use Rattle.repair.proofs.Giving.{MetTo}
use Rattle.repair.proofs.give_all.Given as goal

abbrev pub invariant-loop-t : goal.invariant-loop-t
invariant-loop-t l = State (choice_by l.way (lengths_held l.table (length l.opposite)) l.opposite) l.opposite l.numbers l.met l.group l.n l.owners × MetTo l.numbers l.met l.t
