-- Repair gives a triangle to no polygon but an owner of some triangle, and leaves a sheet in which each triangle has one owner as it is.
-- The idea: the number of a gap is the first owner of a triangle across a side of its region, any other's is an owner of its own.
-- Assumes nothing.
use mathlib.Core.Path.{◌≡◌, refl, sym, ◌∙◌, ap}
use mathlib.Core.List.{List, [], ◌∷◌}
use Prim.Native.Nat.{ℕ, ◌≤◌, ◌<◌}
use native.Mathlib.Omega.{arith}
use lib.Dec.{eqb, eqb→eq, eqb_refl}
use lib.ListN.{length, get_or}
use Rattle.whole.specs.Sums.{All}
use Rattle.whole.proofs.Sums.{all_at, all_from, counted}
use Rattle.lent.specs.Stages.{value}
use Rattle.owners_marks.specs.Listed.{OwnersListed}
use Rattle.repair_choices.specs.Choices.{Choice}
use Rattle.repair.specs.Repair.{settled, numbers_given, repaired}
use Rattle.repair.specs.OneOwner.{owners_at, OneOwner}
use Rattle.repair.proofs.OneOwner.{clean_given}

module _ (opposite : List ℕ) (owners : List (List ℕ)) where
  -- What each owner of each triangle has, as being a polygon's number, each number after repair has.
  pub owners_kept : (l : List ℕ) → OneOwner opposite owners l → (P : ℕ → Type 0) → All (All P) owners → All P l
  owners_kept l p P h = all_from P 0 l (λ t w. let (u, v, a) = p.owned t (omega (arith, p.each)) in counted eqb eqb→eq eqb_refl P (get_or l t 0) (owners_at owners u) a (all_at (All P) [] owners u h v))

  -- Each triangle has exactly one owner: a clean sheet.
  module _ (clean : (t : ℕ) → t < length owners → length (owners_at owners t) ≡ 1) where
    -- Repair has an answer, where there is a triangle,
    pub clean_repaired : (choice : Choice) → OwnersListed owners → 1 ≤ length owners → repaired choice opposite owners ≡ value (numbers_given choice opposite (settled owners))
    clean_repaired choice listed h = clean_given choice opposite owners listed (λ t w e. omega (arith, ap length e, clean t w)) h

    -- and changes nothing.
    pub clean_kept : (l : List ℕ) → OneOwner opposite owners l → (t : ℕ) → t < length owners → owners_at owners t ≡ get_or l t 0 ∷ []
    clean_kept l p t h = go (owners_at owners t) refl (clean t h)
      where
        go : (r : List ℕ) → owners_at owners t ≡ r → length r ≡ 1 → owners_at owners t ≡ get_or l t 0 ∷ []
        go [] e n = absurd (omega arith)
        go (k ∷ []) e n = e ∙ ap (λ j. j ∷ []) (sym (p.single t k h e))
        go (k ∷ j ∷ r) e n = absurd (omega arith)
