-- What repair answered, against what is answered after it. Assumes nothing.
use mathlib.Core.Path.{◌≡◌, sym, ◌∙◌, ap}
use mathlib.Core.List.{List, ◌++◌}
use Prim.Native.Nat.{ℕ, ◌+◌, ◌*◌, ◌≤◌, ◌<◌}
use native.Mathlib.Omega.{arith}
use lib.ListN.{length, take, length-append}
use lib.Seq.{take_at}
use Rattle.std.specs.Prelude.{Result, Ok, Err}
use Rattle.whole.specs.Sums.{All}
use Rattle.whole.proofs.Sums.{all_map}
use Rattle.lent.specs.declared.Refusal.{Refusal}
use Rattle.lent.specs.Refusals.{refused_as}
use Rattle.lent.specs.Stages.{value, and_then, needing}
use Rattle.lent.proofs.Stages.{chain_value}
use Rattle.lent.specs.Answered.{Outcome}
use Rattle.lent_little.specs.Held.{SideIn}
use Rattle.repair_regions.specs.Spreading.{Paired}
use Rattle.repair_choices.specs.Choices.{known, choice_by}
use Rattle.repair.specs.Repair.{repaired}
use Rattle.repair.specs.Ways.{repaired_by}
use Rattle.repair.specs.Giving.{repair_of, RepairedBy}
use Rattle.repair.proofs.OneOwner.{repaired_length}
use Rattle.repair_sides.specs.Numbered.{boundary_numbers, LaidDown}
use Rattle.repair_sides.proofs.Laying.{front_laid, bounding_below}

module _ {way : ℕ} {lengths opposite : List ℕ} {owners : List (List ℕ)} {lent : List ℕ} {r : Result (Unit {0}) Refusal} {after : List ℕ} (e : RepairedBy way lengths opposite owners lent r after) where
  -- A refusal of repair is passed on.
  pub not_repaired : (next : List ℕ → Outcome) {refusal : Refusal} → r ≡ Err refusal → and_then (repaired_by way lengths opposite owners) next ≡ refused_as refusal
  not_repaired next f = ap (λ a. and_then a next) (sym e.answer ∙ ap (λ r. repair_of r after) f)

  module _ {u : Unit {0}} (f : r ≡ Ok u) where
    pub repaired_to : repaired_by way lengths opposite owners ≡ value after
    repaired_to = sym e.answer ∙ ap (λ r. repair_of r after) f

    -- Else it goes on with the owner numbers, one for each triangle.
    pub goes_on : (next : List ℕ → Outcome) → and_then (repaired_by way lengths opposite owners) next ≡ next after
    goes_on next = ap (λ a. and_then a next) repaired_to

    pub as_many : length after ≡ length owners
    as_many =
        let (u, p, q) = (chain_value (needing (known way) 54 0) (λ passed. repaired (choice_by way lengths opposite) opposite owners) after).0 repaired_to in
        repaired_length (choice_by way lengths opposite) opposite owners after q

-- The front of a work list that was lent.
pub room : (part rest : List ℕ) (n : ℕ) → length part ≡ n → n ≤ length (part ++ rest)
room part rest n e = omega (arith, length-append part rest)

pub front : (part rest : List ℕ) (n : ℕ) → length part ≡ n → take n (part ++ rest) ≡ part
front part rest n e = take_at part rest n e

-- The boundary sides laid down, by owner numbers at the front of a work list.
pub sides_laid : (opposite owners rest : List ℕ) (polygon n : ℕ) {before left : List ℕ} {k : ℕ} → length owners ≡ n → LaidDown (boundary_numbers opposite (take n (owners ++ rest)) polygon) before k left
    → (k ≤ length left) × (take k left ≡ boundary_numbers opposite owners polygon)
sides_laid opposite owners rest polygon n e d =
    let (h, l) = front_laid d in
    (h, l ∙ ap (λ o. boundary_numbers opposite o polygon) (front owners rest n e))

-- ---- the boundary sides are sides of the table
pub sides_in : (numbers opposite owners : List ℕ) (polygon n : ℕ) → Paired opposite n → 1 + 6 * n ≤ length numbers → All (SideIn numbers) (boundary_numbers opposite owners polygon)
sides_in numbers opposite owners polygon n pairs h =
    all_map (λ k. k < length opposite) (SideIn numbers) (λ k l. omega (arith, pairs.sides)) (boundary_numbers opposite owners polygon) (bounding_below opposite owners polygon)
