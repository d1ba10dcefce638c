-- Repair in a way, by the number that is asked: an unknown way is refused 54, right before repair.
use Rattle.std.specs.Prelude.{List, ℕ}
use Rattle.lent.specs.Stages.{Answer, and_then, needing}
use Rattle.repair_choices.specs.Choices.{known, choice_by}
use Rattle.repair.specs.Repair.{repaired}

-- By the lengths of the table's sides, what stands across each, and the owners of each triangle.
abbrev pub repaired_by : ℕ → List ℕ → List ℕ → List (List ℕ) → Answer (List ℕ)
repaired_by way lengths opposite owners = and_then (needing (known way) 54 0) (λ passed. repaired (choice_by way lengths opposite) opposite owners)
