-- What owners the gap triangles met are given, region by region, and the lent owner numbers after repair.
use Rattle.std.specs.Prelude.{Option, None, Some, Result, Ok, Err, suc, ◌≡◌, ◌⊎◌, Bool, true, false, cond, List, ℕ, ◌/◌, ◌≤◌, ◌<◌, eqb, length, get_or}
use Rattle.std.proofs.Math.Option.{none, some, Option as Numbered}
use Rattle.whole.specs.Sums.{every}
use Rattle.lent.specs.declared.Refusal.{Refusal}
use Rattle.lent.specs.Stages.{Answer, value}
use Rattle.lent.specs.Refusals.{refused_as}
use Rattle.repair_regions.specs.Regions.{region}
use Rattle.repair_regions.specs.Spreading.{Meeting, Spread}
use Rattle.repair_choices.specs.Choices.{Choice, beyond, known, choice_by}
use Rattle.repair.specs.Repair.{settled, numbers_given, repaired}
use Rattle.repair.specs.Ways.{repaired_by}

-- The largest number across the sides of the triangles of the group from `first` on and before i; 0 where there is none.
pub record Best (opposite numbers group : List ℕ) (first i r : ℕ) : Type 0 where
  pub above : (j k : ℕ) → first ≤ j → j < i → k / 3 ≡ get_or group j 0 → beyond opposite numbers (get_or opposite k 0) ≤ r
  pub found : (r ≡ 0) ⊎ (j : ℕ) × (k : ℕ) × (first ≤ j) × (j < i) × (k / 3 ≡ get_or group j 0) × (beyond opposite numbers (get_or opposite k 0) ≡ r)

-- The triangles of the group from `first` on and before i are given to one owner, and the others are as they were.
pub record Filled (group : List ℕ) (first i owner : ℕ) (owners owners' : List ℕ) : Type 0 where
  pub as_many : length owners' ≡ length owners
  pub given : (j : ℕ) → first ≤ j → j < i → get_or owners' (get_or group j 0) 0 ≡ owner
  pub others : (u : ℕ) → ((j : ℕ) → first ≤ j → j < i → get_or group j 0 ≡ u → ⊥) → get_or owners' u 0 ≡ get_or owners u 0

-- Whole regions have been met, each given to the number chosen for it; the other triangles have their numbers.
pub record State (choice : Choice) (opposite numbers : List ℕ) (met : List Bool) (group : List ℕ) (n : ℕ) (owners : List ℕ) : Type 0 where
  pub meeting : Meeting numbers met group n
  pub spread : Spread opposite numbers met group n
  pub as_many : length owners ≡ length numbers
  pub given : (u : ℕ) → get_or met u false ≡ true → get_or owners u 0 ≡ choice numbers (region opposite numbers u)
  pub plain : (u : ℕ) → get_or met u false ≡ false → get_or owners u 0 ≡ get_or numbers u 0

-- What was marked is marked, and so is triangle t where it is a gap.
pub record Further (numbers : List ℕ) (met met' : List Bool) (t : ℕ) : Type 0 where
  pub still : (u : ℕ) → get_or met u false ≡ true → get_or met' u false ≡ true
  pub there : get_or numbers t 0 ≡ 0 → get_or met' t false ≡ true

-- A triangle that was found, counted from 0, by its number, counted from 1.
abbrev pub numbered : Option ℕ → Numbered ℕ
numbered None = none
numbered (Some t) = some (suc t)

-- What a call of repair answered, with the list that it left.
abbrev pub repair_of : Result (Unit {0}) Refusal → List ℕ → Answer (List ℕ)
repair_of (Ok _) owners = value owners
repair_of (Err r) owners = refused_as r

-- The lent owner numbers afterwards: as they were where no triangle has an owner; else the numbers given, 0 where nobody can be given the triangle.
abbrev pub owners_left : Choice → List ℕ → List (List ℕ) → List ℕ → List ℕ
owners_left choice opposite owners lent = cond (every (eqb 0) (settled owners)) lent (numbers_given choice opposite (settled owners))

pub record RepairedTo (choice : Choice) (opposite : List ℕ) (owners : List (List ℕ)) (before : List ℕ) (r : Result (Unit {0}) Refusal) (after : List ℕ) : Type 0 where
  pub answer : repair_of r after ≡ repaired choice opposite owners
  pub left : after ≡ owners_left choice opposite owners before

-- The same of a repair in a way: where the way is unknown, they are as they were.
abbrev pub owners_left_by : ℕ → List ℕ → List ℕ → List (List ℕ) → List ℕ → List ℕ
owners_left_by way lengths opposite owners lent = cond (known way) (owners_left (choice_by way lengths opposite) opposite owners lent) lent

pub record RepairedBy (way : ℕ) (lengths opposite : List ℕ) (owners : List (List ℕ)) (before : List ℕ) (r : Result (Unit {0}) Refusal) (after : List ℕ) : Type 0 where
  pub answer : repair_of r after ≡ repaired_by way lengths opposite owners
  pub left : after ≡ owners_left_by way lengths opposite owners before
