-- What holds of a side and of each that follows such a one holds of all sides of its ring, and of all rings. Assumes nothing.
use mathlib.Core.Bool.{Bool, true, false, cond}
use mathlib.Core.List.{List, [], ◌∷◌, ◌++◌}
use Prim.Native.Nat.{ℕ, zero, suc, ◌-◌}
use lib.Dec.{eqb}
use lib.ListN.{length}
use Rattle.whole.specs.Sums.{All, any}
use Rattle.repair_ring_walk.specs.Walk.{numbers_from, ring_numbers}

module _ (P : ℕ → Type 0) (f : ℕ → ℕ) (stays : (k : ℕ) → P k → P (f k)) where
  pub ring_in : (n first k : ℕ) → P k → All P (numbers_from n f first k)
  ring_in zero first k p = tt
  ring_in (suc n) first k p = (p, go (eqb (f k) first) (ring_in n first (f k) (stays k p)))
    where
      go : (b : Bool) → All P (numbers_from n f first (f k)) → All P (cond b [] (numbers_from n f first (f k)))
      go true h = tt
      go false h = h

  pub rings_in_lem : (n : ℕ) (taken m : List ℕ) → All P m → All (All P) (ring_numbers n f taken m)
  rings_in_lem n taken [] h = tt
  rings_in_lem n taken (k ∷ m) h = go (any (eqb k) taken) (rings_in_lem n taken m h.1) (rings_in_lem (n - length (numbers_from n f k k)) (numbers_from n f k k ++ taken) m h.1)
    where
      go : (b : Bool) → All (All P) (ring_numbers n f taken m) → All (All P) (ring_numbers (n - length (numbers_from n f k k)) f (numbers_from n f k k ++ taken) m)
          → All (All P) (cond b (ring_numbers n f taken m) (numbers_from n f k k ∷ ring_numbers (n - length (numbers_from n f k k)) f (numbers_from n f k k ++ taken) m))
      go true i j = i
      go false i j = (ring_in n k k h.0, j)
