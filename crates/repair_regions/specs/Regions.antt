-- A gap region: a largest group of gap triangles joined through shared sides.
use Rattle.std.specs.Prelude.{◌≡◌, Bool, true, false, ◌&&◌, ◌||◌, List, [], ◌∷◌, map, ℕ, zero, suc, ◌+◌, ◌*◌, ◌/◌, eqb, length, get_or, replicate, set}

-- The numbers from i on, so many.
abbrev pub from : ℕ → ℕ → List ℕ
from i zero = []
from i (suc n) = i ∷ from (suc i) n

module _ (opposite numbers : List ℕ) where
  -- The triangle is a gap.
  abbrev pub gap : ℕ → Bool
  gap t = eqb (get_or numbers t 0) 0

  -- A triangle of the group is across the side, by the number of its reverse.
  abbrev pub in_group : List Bool → ℕ → Bool
  in_group group zero = false
  in_group group (suc o) = get_or group (o / 3) false

  abbrev pub touches : List Bool → ℕ → Bool
  touches group t = in_group group (get_or opposite (3 * t) 0) || in_group group (get_or opposite (3 * t + 1) 0) || in_group group (get_or opposite (3 * t + 2) 0)

  -- One round of joining: the gap triangles that share a side with a triangle of the group join it.
  abbrev pub joined : List Bool → List Bool
  joined group = map (λ t. get_or group t false || (gap t && touches group t)) (from 0 (length numbers))

  abbrev pub rounds : ℕ → List Bool → List Bool
  rounds zero group = group
  rounds (suc n) group = rounds n (joined group)

  -- The gap region of a triangle: what joins it in as many rounds as there are triangles.
  abbrev pub region : ℕ → List Bool
  region t = rounds (length numbers) (set (replicate (length numbers) false) t true)

-- A triangle is joined with t through shared sides of gap triangles: t itself, and each gap across a side of one that is.
pub data Joined (opposite numbers : List ℕ) (t : ℕ) : ℕ → Type 0 where
  self : Joined opposite numbers t t
  step : {u : ℕ} (k o : ℕ) → Joined opposite numbers t (k / 3) → get_or opposite k 0 ≡ suc o → gap opposite numbers (o / 3) ≡ true → o / 3 ≡ u → Joined opposite numbers t u
