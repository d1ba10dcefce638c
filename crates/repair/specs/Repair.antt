-- Repair: triangles with one owner keep it, an overlap goes to its smallest owner number, and then each gap region, a largest group of gap
-- triangles joined through shared sides, goes as a whole to the number chosen for it.
use Rattle.std.specs.Prelude.{Bool, not, cond, List, [], map, ℕ, eqb, length, get_or}
use Rattle.whole.specs.Sums.{every}
use Rattle.lent.specs.Stages.{Answer, value, and_then, needing, faultless}
use Rattle.table.specs.Table.{first_fault}
use Rattle.owners_marks.specs.declared.Standing.{Standing}
use Rattle.owners_marks.specs.declared.Standing.TheVariants.{Gap, Single, Overlap}
use Rattle.owners_marks.specs.Marks.{standing_by}
use Rattle.repair_regions.specs.Regions.{from, gap, region}
use Rattle.repair_choices.specs.Choices.{Choice}

-- The owner number of a triangle once the overlaps are settled; 0 for a gap.
abbrev pub settled_by : Standing → ℕ
settled_by Gap = 0
settled_by (Single k) = k
settled_by (Overlap k) = k

abbrev pub settled : List (List ℕ) → List ℕ
settled = map (λ owners. settled_by (standing_by owners))

module _ (choice : Choice) (opposite : List ℕ) where
  -- The owner number of a triangle after repair, and those of all triangles; 0 where nobody can be given the triangle.
  abbrev pub owner_of : List ℕ → ℕ → ℕ
  owner_of numbers t = cond (gap opposite numbers t) (choice numbers (region opposite numbers t)) (get_or numbers t 0)

  abbrev pub numbers_given : List ℕ → List ℕ
  numbers_given numbers = map (owner_of numbers) (from 0 (length numbers))

-- Nobody can be given the triangle.
abbrev pub ungiven : List ℕ → ℕ → Bool
ungiven before number = eqb number 0

-- 31 with the first triangle, counted from 1, that nobody can be given.
abbrev pub all_given : List ℕ → Answer (List ℕ)
all_given numbers = and_then (faultless 31 (first_fault ungiven [] numbers)) (λ passed. value numbers)

-- Repair, from the owners of each triangle: one owner number for each. 30 where no triangle has an owner.
unfoldable pub repaired : Choice → List ℕ → List (List ℕ) → Answer (List ℕ)
repaired choice opposite owners =
    and_then (needing (not (every (eqb 0) (settled owners))) 30 0)
    (λ passed. all_given (numbers_given choice opposite (settled owners)))
