-- What is answered after repair, as the code comes to it: by the numbers of the sides, off the held numbers.
use mathlib.Core.List.{List, flat_map}
use Rattle.std.specs.Prelude.{ℕ, length}
use Rattle.lent.specs.Stages.{and_then}
use Rattle.lent.specs.Answered.{Outcome, bytes}
use Rattle.lent_little.specs.Held.{side_held}
use Rattle.repair.specs.Ways.{repaired_by}
use Rattle.repair_sides.specs.Numbered.{boundary_numbers}
use Rattle.repair_answers.specs.Answers.{numbers_after}

-- The number of each triangle after repair in a way.
abbrev pub owners_outcome : ℕ → List ℕ → List ℕ → List (List ℕ) → Outcome
owners_outcome way lengths opposite owners = and_then (repaired_by way lengths opposite owners) numbers_after

-- The boundary sides of a polygon by number, each as its 16 bytes off the held numbers; the item is the number of sides.
abbrev pub sides_held : List ℕ → List ℕ → Outcome
sides_held numbers l = bytes (length l) (flat_map (side_held numbers) l)

-- The boundary sides of a polygon after repair in a way.
abbrev pub sides_outcome : List ℕ → ℕ → List ℕ → List ℕ → List (List ℕ) → ℕ → Outcome
sides_outcome numbers way lengths opposite owners polygon = and_then (repaired_by way lengths opposite owners) (λ l. sides_held numbers (boundary_numbers opposite l polygon))
