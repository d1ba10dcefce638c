-- The choice for a gap region: which of the numbers found across its sides, once the overlaps are settled, it goes to. Document 01's choice is the largest of them; the other
-- is the one with the greatest shared length.
use Rattle.std.specs.Prelude.{Bool, false, not, cond, List, [], ◌∷◌, map, ℕ, zero, suc, ◌+◌, ◌/◌, eqb, leb, length, get_or}
use Rattle.whole.specs.Sums.{passing}
use Rattle.repair_regions.specs.Regions.{from}

-- A choice for gap regions: the number given to a group of triangles, by the settled numbers of all triangles; 0 where nobody can be given it.
abbrev pub Choice : Type 0
Choice = List ℕ → List Bool → ℕ

-- The greater of two numbers, the greatest of a list, 0 for none, and the sum of a list.
abbrev pub greater : ℕ → ℕ → ℕ
greater m n = cond (leb m n) n m

abbrev pub greatest : List ℕ → ℕ
greatest [] = 0
greatest (n ∷ l) = greater n (greatest l)

abbrev pub total : List ℕ → ℕ
total [] = 0
total (n ∷ l) = n + total l

module _ (opposite numbers : List ℕ) where
  -- The number found across a side, by the number of its reverse; 0 where the table ends. And the same for side k.
  abbrev pub beyond : ℕ → ℕ
  beyond zero = 0
  beyond (suc o) = get_or numbers (o / 3) 0

  abbrev pub across : ℕ → ℕ
  across k = beyond (get_or opposite k 0)

  -- The sides of a group of triangles, by number: side k is of triangle k / 3.
  abbrev pub sides_in : List Bool → List ℕ
  sides_in group = passing (λ k. get_or group (k / 3) false) (from 0 (length opposite))

  -- The numbers that some sides touch: those found across them.
  abbrev pub touched : List ℕ → List ℕ
  touched sides = passing (λ m. not (eqb m 0)) (map across sides)

-- ---- the largest number found across the sides of a group
abbrev pub largest : List ℕ → Choice
largest opposite numbers group = greatest (map (across opposite numbers) (sides_in opposite numbers group))

-- ---- the longest shared boundary, by the lengths of the table's sides
module _ (lengths opposite numbers : List ℕ) where
  -- The shared length of number m: the lengths of those of the sides that touch it, added up.
  abbrev pub shared : List ℕ → ℕ → ℕ
  shared sides m = total (map (λ k. get_or lengths k 0) (passing (λ k. eqb (across opposite numbers k) m) sides))

  -- Of the numbers that the sides touch the one with the greatest shared length; on equal lengths the larger number; 0 where they touch none.
  abbrev pub favoured : List ℕ → ℕ
  favoured sides =
      let there = touched opposite numbers sides in
      greatest (passing (λ m. eqb (shared sides m) (greatest (map (shared sides) there))) there)

abbrev pub longest : List ℕ → List ℕ → Choice
longest lengths opposite numbers group = favoured lengths opposite numbers (sides_in opposite numbers group)

-- ---- the ways to fill gaps, by the number that is asked
-- Two are known: 0 is document 01's, the priority list, and 1 the longest shared boundary.
abbrev pub known : ℕ → Bool
known way = leb way 1

abbrev pub choice_by : ℕ → List ℕ → List ℕ → Choice
choice_by zero lengths opposite = largest opposite
choice_by (suc way) lengths opposite = longest lengths opposite
