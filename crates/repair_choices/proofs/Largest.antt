-- The largest number across the sides of a group is found there, and none is above it: it is a choice for gap regions. Assumes nothing.
use mathlib.Core.Path.{◌≡◌, refl, sym, subst}
use mathlib.Core.Logic.{◌↔◌, inl, inr}
use mathlib.Core.Bool.{Bool, true, false}
use mathlib.Core.List.{List, [], ◌∷◌, map}
use Prim.Native.Nat.{ℕ, ◌/◌, ◌≤◌, ◌<◌}
use native.Mathlib.Omega.{arith}
use lib.ListN.{length, get_or}
use Rattle.repair_regions.specs.Regions.{from}
use Rattle.repair_choices.specs.Choices.{greatest, across, sides_in, largest}
use Rattle.repair_choices.specs.Choosing.{FoundAcross, Chooses, In}
use Rattle.repair_choices.proofs.Lists.{in_passing, in_map, in_from, greatest_above, greatest_in}

-- A side of a group is a side of one of its triangles.
pub side_of : (opposite numbers : List ℕ) (group : List Bool) (k : ℕ) → In k (sides_in opposite numbers group) ↔ ((k < length opposite) × (get_or group (k / 3) false ≡ true))
side_of opposite numbers group k =
    let p = in_passing (λ k. get_or group (k / 3) false) (from 0 (length opposite)) k in
    let f = in_from 0 (length opposite) k in
    (λ i. let (j, t) = p.0 i in (omega (arith, (f.0 j).1), t), λ (h, t). p.1 (f.1 (omega arith, omega arith), t))

module _ (opposite numbers : List ℕ) (group : List Bool) where
  abbrev found : List ℕ
  found = map (across opposite numbers) (sides_in opposite numbers group)

  -- No number across a side of the group is above the largest,
  pub largest_above : (k : ℕ) → k < length opposite → get_or group (k / 3) false ≡ true → across opposite numbers k ≤ largest opposite numbers group
  largest_above k h t = greatest_above found (across opposite numbers k) ((in_map (across opposite numbers) (sides_in opposite numbers group) _).1 (k, (side_of opposite numbers group k).1 (h, t), refl))

  -- which stands across one, or is 0.
  pub largest_found : FoundAcross opposite numbers group (largest opposite numbers group)
  largest_found = go found refl
    where
      go : (l : List ℕ) → found ≡ l → FoundAcross opposite numbers group (largest opposite numbers group)
      go [] e = inl (subst (λ l. greatest found ≡ greatest l) e refl)
      go (x ∷ l) e =
          let i = greatest_in found x (subst (In x) (sym e) (inl refl)) in
          let (k, j, q) = (in_map (across opposite numbers) (sides_in opposite numbers group) (greatest found)).0 i in
          let (h, t) = (side_of opposite numbers group k).0 j in
          inr (k, h, t, q)

pub largest_chooses : (opposite : List ℕ) → Chooses opposite (largest opposite)
largest_chooses opposite = record {
  found = largest_found opposite;
  none = λ numbers group z k h m. omega (arith, largest_above opposite numbers group k h m);
}
