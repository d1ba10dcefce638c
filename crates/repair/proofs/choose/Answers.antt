-- The largest number found is that of the group's marks. Assumes nothing.
use Rattle.std.proofs.Common.{◌∙◌, sym, ap, length}
use Rattle.repair_choices.specs.Choices.{choice_by}
use Rattle.repair_longest.specs.Held.{lengths_held}
use Rattle.repair.proofs.Giving.{best_largest}
use Rattle.repair.proofs.choose.Goals as goal

pub returns-then-way-eq0 : goal.returns-then-way-eq0
returns-then-way-eq0 c = λ marks is.
    let a = c.args in
    best_largest c.requires.0.sides c.requires.6 is c.highest.ensures
    ∙ ap (λ way. choice_by way (lengths_held a.table.now (length a.opposite.now)) a.opposite.now a.numbers.now marks) (sym c.if-way-eq0.true)
