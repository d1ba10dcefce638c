-- The choice of each way is a choice for gap regions. Assumes nothing.
use mathlib.Core.List.{List}
use Prim.Native.Nat.{ℕ, zero, suc}
use Rattle.repair_choices.specs.Choices.{choice_by}
use Rattle.repair_choices.specs.Choosing.{Chooses}
use Rattle.repair_choices.proofs.Largest.{largest_chooses}
use Rattle.repair_choices.proofs.Longest.{longest_chooses}

pub way_chooses : (way : ℕ) (lengths opposite : List ℕ) → Chooses opposite (choice_by way lengths opposite)
way_chooses zero lengths opposite = largest_chooses opposite
way_chooses (suc way) lengths opposite = longest_chooses lengths opposite
