-- Repair in a way, by repair with its choice: an unknown way is refused 54, before repair. Assumes nothing.
use mathlib.Core.Path.{◌≡◌, ◌∙◌, ap}
use mathlib.Core.Logic.{◌↔◌, ◌⊎◌, inl, inr}
use mathlib.Core.List.{List}
use Prim.Native.Nat.{ℕ, ◌≤◌}
use borrow.Author.Tests.{le-leb}
use lib.Dec.{leb→le, le→leb}
use Rattle.plane.specs.Boundaries.{sides_of}
use Rattle.plane_lengths.specs.Lengths.{lengths_of}
use Rattle.lent.specs.Stages.{Answer, value, refused, and_then, needing}
use Rattle.lent.proofs.Stages.{chain_value, chain_refused, needing_value, needing_refused}
use Rattle.table.specs.Opposites.{opposites}
use Rattle.repair_choices.specs.Choices.{known, choice_by}
use Rattle.repair.specs.Repair.{repaired}
use Rattle.judged.specs.Judged.{Judged, repair_of}

module _ (j : Judged) (way : ℕ) where
  abbrev opposite : List ℕ
  opposite = opposites (sides_of j.sheet.table)

  abbrev by_choice : Answer (List ℕ)
  by_choice = repaired (choice_by way (lengths_of j.sheet.table) opposite) opposite j.owners

  -- In a known way a sheet is repaired with its choice.
  pub known_way : way ≤ 1 → repair_of way j ≡ repaired (choice_by way (lengths_of j.sheet.table) (opposites (sides_of j.sheet.table))) (opposites (sides_of j.sheet.table)) j.owners
  known_way h = ap (λ b. and_then (needing b 54 0) (λ passed. by_choice)) (le-leb way 1 h)

  -- A sheet that is repaired is repaired in a known way,
  pub way_value : (o : List ℕ) → repair_of way j ≡ value o → way ≤ 1
  way_value o e = let (u, p, q) = (chain_value (needing (known way) 54 0) (λ passed. by_choice) o).0 e in leb→le way 1 ((needing_value (known way) 54 0).0 p)

  -- and one that is not is refused 54 exactly if the way is unknown, and else as repair is.
  pub way_refused : (code item : ℕ) → (repair_of way j ≡ refused code item) ↔ (((way ≤ 1 → ⊥) × (code ≡ 54) × (item ≡ 0)) ⊎ ((way ≤ 1)
      × (repaired (choice_by way (lengths_of j.sheet.table) (opposites (sides_of j.sheet.table))) (opposites (sides_of j.sheet.table)) j.owners ≡ refused code item)))
  way_refused code item = (to, from)
    where
      to : repair_of way j ≡ refused code item → ((way ≤ 1 → ⊥) × (code ≡ 54) × (item ≡ 0)) ⊎ ((way ≤ 1) × (by_choice ≡ refused code item))
      to e = elim ((chain_refused (needing (known way) 54 0) (λ passed. by_choice) code item).0 e) [
        | inl p ↦ let (n, c, i) = (needing_refused (known way) 54 0 code item).0 p in inl (λ z. n (le→leb way 1 z), c, i)
        | inr (u, p, q) ↦ inr (leb→le way 1 ((needing_value (known way) 54 0).0 p), q)
      ]

      from : ((way ≤ 1 → ⊥) × (code ≡ 54) × (item ≡ 0)) ⊎ ((way ≤ 1) × (by_choice ≡ refused code item)) → repair_of way j ≡ refused code item
      from (inl (n, c, i)) = (chain_refused (needing (known way) 54 0) (λ passed. by_choice) code item).1 (inl ((needing_refused (known way) 54 0 code item).1 (λ t. n (leb→le way 1 t), c, i)))
      from (inr (h, q)) = known_way h ∙ q
