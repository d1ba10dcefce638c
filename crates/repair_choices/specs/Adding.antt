-- Sides that are met triangle by triangle, and the lengths added up on the way: a sum for each number, and the number favoured so far.
use Rattle.std.specs.Prelude.{◌≡◌, Bool, true, false, cond, List, [], ◌∷◌, ℕ, zero, suc, ◌+◌, ◌*◌, ◌≤◌, ◌<◌, ltb, length, get_or}
use Rattle.repair_choices.specs.Choices.{greater, shared}
use Rattle.repair_choices.specs.Choosing.{Favoured}

-- The marks of the triangles of the group from `first` on and before n, of which each stands there once.
pub record Marked (group : List ℕ) (first n : ℕ) (marks : List Bool) : Type 0 where
  pub own : (j : ℕ) → first ≤ j → j < n → get_or marks (get_or group j 0) false ≡ true
  pub by : (u : ℕ) → get_or marks u false ≡ true → (j : ℕ) × (first ≤ j) × (j < n) × (get_or group j 0 ≡ u)
  pub once : (i j : ℕ) → i < j → j < n → get_or group i 0 ≡ get_or group j 0 → ⊥

-- The sides of so many triangles of the group from `first` on, the last first.
abbrev pub sides_met : List ℕ → ℕ → ℕ → List ℕ
sides_met group first zero = []
sides_met group first (suc c) = let u = get_or group (first + c) 0 in (3 * u + 2) ∷ (3 * u + 1) ∷ (3 * u) ∷ sides_met group first c

-- Of two numbers the one with the greater sum; on equal sums the larger number.
abbrev pub preferred : List ℕ → ℕ → ℕ → ℕ
preferred sums m n = cond (ltb (get_or sums n 0) (get_or sums m 0)) m (cond (ltb (get_or sums m 0) (get_or sums n 0)) n (greater m n))

-- Some sides have been met: each number up to 64 has its shared length as its sum, 0 none, and no sum is more than 30,000,000 a side.
pub record Adding (lengths opposite numbers sides sums : List ℕ) (best : ℕ) : Type 0 where
  pub many : length sums ≡ 65
  pub none : get_or sums 0 0 ≡ 0
  pub are : (m : ℕ) → 1 ≤ m → m ≤ 64 → get_or sums m 0 ≡ shared lengths opposite numbers sides m
  pub small : (m : ℕ) → get_or sums m 0 ≤ 30_000_000 * length sides
  pub up_to : best ≤ 64
  pub favours : Favoured lengths opposite numbers sides best
