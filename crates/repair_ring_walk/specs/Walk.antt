-- The rings of boundary sides by the numbers of the table's sides, as the code lays them down: one behind the other, and where each ends.
use Rattle.std.specs.Prelude.{◌≡◌, Bool, false, cond, ◌||◌, ℕ, zero, suc, ◌+◌, ◌-◌, eqb, length, get_or, drop, take}
use mathlib.Core.List.{List, [], ◌∷◌, ◌++◌, flat_map}
use Rattle.whole.specs.Sums.{any}

-- The sides from k on, each the one that follows the one before, until the next would be the first one; n sides at most.
abbrev pub numbers_from : ℕ → (ℕ → ℕ) → (first k : ℕ) → List ℕ
numbers_from zero f first k = []
numbers_from (suc n) f first k = k ∷ cond (eqb (f k) first) [] (numbers_from n f first (f k))

-- The rings that begin with the sides of m which no ring before them has, n sides at most in all; `taken` are the sides that earlier rings have.
abbrev pub ring_numbers : ℕ → (ℕ → ℕ) → (taken m : List ℕ) → List (List ℕ)
ring_numbers n f taken [] = []
ring_numbers n f taken (k ∷ m) = cond (any (eqb k) taken) (ring_numbers n f taken m)
    (numbers_from n f k k ∷ ring_numbers (n - length (numbers_from n f k k)) f (numbers_from n f k k ++ taken) m)

-- Where each ring ends, if they stand one behind the other from a place on.
abbrev pub ends_from : ℕ → List (List ℕ) → List ℕ
ends_from at [] = []
ends_from at (r ∷ l) = (at + length r) ∷ ends_from (at + length r) l

-- A ring laid down from a place on, each of its sides marked; r is the place behind it.
pub record RingDown (ring : List ℕ) (at : ℕ) (before : List ℕ) (taken : List Bool) (r : ℕ) (after : List ℕ) (marked : List Bool) : Type 0 where
  pub behind : r ≡ at + length ring
  pub sides : after ≡ take at before ++ ring ++ drop (at + length ring) before
  pub many : length marked ≡ length taken
  pub marks : (j : ℕ) → get_or marked j false ≡ (any (eqb j) ring || get_or taken j false)

-- The rings laid down: their sides at the front of one lent list, their ends at the front of the other; r is how many they are.
pub record RingsDown (rings : List (List ℕ)) (before endsBefore : List ℕ) (r : ℕ) (after endsAfter : List ℕ) : Type 0 where
  pub many : r ≡ length rings
  pub sides : after ≡ flat_map (λ l. l) rings ++ drop (length (flat_map (λ l. l) rings)) before
  pub ends : endsAfter ≡ ends_from 0 rings ++ drop r endsBefore
