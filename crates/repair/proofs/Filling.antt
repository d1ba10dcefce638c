-- The numbers of settled sets. Assumes nothing.
use mathlib.Core.Path.{◌≡◌, refl}
use mathlib.Core.List.{List, [], ◌∷◌, map}
use Prim.Native.Nat.{ℕ, zero, suc, ◌≤◌, ◌<◌}
use native.Mathlib.Omega.{arith}
use lib.ListN.{length, get_or, set}
use Rattle.whole.specs.Sums.{All}
use Rattle.owners_marks.specs.Marks.{standing_by}
use Rattle.owners_marks.specs.Sets.{owners_of, standing_of}
use Rattle.owners_marks.proofs.Bits.{owners_small}
use Rattle.repair.specs.Repair.{settled_by, settled}

-- The settled number of a set is that of the owners in it,
pub settled_set : (sets : List ℕ) (i : ℕ) → i < length sets → get_or (settled (map owners_of sets)) i 0 ≡ settled_by (standing_of (get_or sets i 0))
unfolding standing_of
settled_set [] i h = absurd (omega arith)
settled_set (s ∷ l) zero h = refl
settled_set (s ∷ l) (suc i) h = settled_set l i (omega arith)

-- and is at most 64.
pub settled_small : (set : ℕ) → settled_by (standing_of set) ≤ 64
unfolding standing_of
settled_small set = go (owners_of set) (owners_small set)
  where
    go : (l : List ℕ) → All (λ x. x ≤ 64) l → settled_by (standing_by l) ≤ 64
    go [] h = omega arith
    go (k ∷ []) h = h.0
    go (k ∷ j ∷ l) h = h.0

-- So are all settled numbers.
pub all_small : (sets : List ℕ) → All (λ x. x ≤ 64) (settled (map owners_of sets))
unfolding standing_of
all_small [] = tt
all_small (s ∷ l) = (settled_small s, all_small l)
