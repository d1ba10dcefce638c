-- What repair promises: each triangle has exactly one owner, as laid down.
use Rattle.std.specs.Prelude.{◌≡◌, List, [], ◌∷◌, ℕ, zero, suc, ◌/◌, ◌≤◌, ◌<◌, eqb, length, get_or}
use Rattle.whole.specs.Sums.{Among}
use Rattle.repair_regions.specs.Regions.{region, Joined}
use Rattle.repair_choices.specs.Choices.{sides_in, shared}
use Rattle.repair.specs.Repair.{settled}

-- The owners of triangle t.
abbrev pub owners_at : List (List ℕ) → ℕ → List ℕ
owners_at owners t = get_or owners t []

-- A number is found across the region of the gap t: it is the settled number of a triangle with an owner across one of the region's sides.
abbrev pub FoundFor : List ℕ → List (List ℕ) → ℕ → ℕ → Type 0
FoundFor opposite owners t m =
    (k : ℕ) × (o : ℕ) × Joined opposite (settled owners) t (k / 3) × (get_or opposite k 0 ≡ suc o) × (owners_at owners (o / 3) ≡ [] → ⊥) × (m ≡ get_or (settled owners) (o / 3) 0)

-- The numbers l, one for each triangle, are owners as repair has to give them. The region of a gap is what is joined with it through shared
-- sides of gaps; the settled number of a triangle is its single or its smallest owner, 0 for a gap.
pub record OneOwner (opposite : List ℕ) (owners : List (List ℕ)) (l : List ℕ) : Type 0 where
  -- Each triangle of the table has a number,
  pub each : length l ≡ length owners
  -- which is an owner's of some triangle.
  pub owned : (t : ℕ) → t < length owners → (u : ℕ) × (u < length owners) × Among eqb (get_or l t 0) (owners_at owners u)
  -- A single owner is kept.
  pub single : (t k : ℕ) → t < length owners → owners_at owners t ≡ k ∷ [] → get_or l t 0 ≡ k
  -- An overlap goes to one of its owners, the smallest.
  pub overlap : (t : ℕ) → t < length owners → 2 ≤ length (owners_at owners t)
      → Among eqb (get_or l t 0) (owners_at owners t) × ((k : ℕ) → Among eqb k (owners_at owners t) → get_or l t 0 ≤ k)
  -- All triangles of a gap's region have the same owner,
  pub same : (t u : ℕ) → t < length owners → owners_at owners t ≡ [] → Joined opposite (settled owners) t u → get_or l u 0 ≡ get_or l t 0
  -- which is found across one of the region's sides.
  pub found : (t : ℕ) → t < length owners → owners_at owners t ≡ [] → FoundFor opposite owners t (get_or l t 0)

-- No triangle across the sides of a gap's region has a larger number than the region.
pub record LargestThere (opposite : List ℕ) (owners : List (List ℕ)) (l : List ℕ) : Type 0 where
  pub none_larger : (t k o : ℕ) → t < length owners → owners_at owners t ≡ [] → Joined opposite (settled owners) t (k / 3) → get_or opposite k 0 ≡ suc o
      → get_or (settled owners) (o / 3) 0 ≤ get_or l t 0

-- The length that the region of the gap t shares with number m.
abbrev pub shared_with : List ℕ → List ℕ → List (List ℕ) → ℕ → ℕ → ℕ
shared_with lengths opposite owners t m = shared lengths opposite (settled owners) (sides_in opposite (settled owners) (region opposite (settled owners) t)) m

-- No number found across a gap's region shares more with it than the region's, and none that shares as much is larger.
pub record LongestThere (lengths opposite : List ℕ) (owners : List (List ℕ)) (l : List ℕ) : Type 0 where
  pub none_longer : (t m : ℕ) → t < length owners → owners_at owners t ≡ [] → FoundFor opposite owners t m → shared_with lengths opposite owners t m ≤ shared_with lengths opposite owners t (get_or l t 0)
  pub none_larger : (t m : ℕ) → t < length owners → owners_at owners t ≡ [] → FoundFor opposite owners t m → shared_with lengths opposite owners t m ≡ shared_with lengths opposite owners t (get_or l t 0)
      → m ≤ get_or l t 0

-- Which number a gap region goes to, by the way: the largest across its sides, or the one with the greatest shared length.
abbrev pub ChosenThere : ℕ → List ℕ → List ℕ → List (List ℕ) → List ℕ → Type 0
ChosenThere zero lengths opposite owners l = LargestThere opposite owners l
ChosenThere (suc way) lengths opposite owners l = LongestThere lengths opposite owners l
