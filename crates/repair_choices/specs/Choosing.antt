-- What a choice for gap regions has to be, and what the number with the greatest shared length is.
use Rattle.std.specs.Prelude.{◌≡◌, ◌⊎◌, Bool, true, false, List, [], ◌∷◌, ℕ, ◌/◌, ◌≤◌, ◌<◌, length, get_or}
use Rattle.repair_choices.specs.Choices.{Choice, across, touched, shared}

-- A number is found across a side of a group of triangles, or is 0.
abbrev pub FoundAcross : List ℕ → List ℕ → List Bool → ℕ → Type 0
FoundAcross opposite numbers group m = (m ≡ 0) ⊎ (k : ℕ) × (k < length opposite) × (get_or group (k / 3) false ≡ true) × (across opposite numbers k ≡ m)

-- What a choice for gap regions has to be, whatever the settled numbers and the group of triangles are.
pub record Chooses (opposite : List ℕ) (choice : Choice) : Type 0 where
  -- The number is found across a side of the group, or is 0,
  pub found : (numbers : List ℕ) (group : List Bool) → FoundAcross opposite numbers group (choice numbers group)
  -- and is 0 only where no number is across the group's sides.
  pub none : (numbers : List ℕ) (group : List Bool) → choice numbers group ≡ 0 → (k : ℕ) → k < length opposite → get_or group (k / 3) false ≡ true → across opposite numbers k ≡ 0

-- The number stands in the list.
abbrev pub In : ℕ → List ℕ → Type 0
In x [] = ⊥
In x (y ∷ l) = (y ≡ x) ⊎ In x l

-- r is, of the numbers that some sides touch, the one with the greatest shared length: none has a greater one, and none with the same is larger. It is 0 where they touch none.
pub record Favoured (lengths opposite numbers sides : List ℕ) (r : ℕ) : Type 0 where
  pub one : ((r ≡ 0) × ((m : ℕ) → In m (touched opposite numbers sides) → ⊥)) ⊎ In r (touched opposite numbers sides)
  pub none_longer : (m : ℕ) → In m (touched opposite numbers sides) → shared lengths opposite numbers sides m ≤ shared lengths opposite numbers sides r
  pub none_larger : (m : ℕ) → In m (touched opposite numbers sides) → shared lengths opposite numbers sides m ≡ shared lengths opposite numbers sides r → m ≤ r
