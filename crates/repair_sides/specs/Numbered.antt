-- The boundary sides of a polygon by the numbers of the table's sides, as the code finds them.
use Rattle.std.specs.Prelude.{◌≡◌, Bool, false, not, ◌&&◌, List, ◌++◌, ℕ, zero, suc, ◌/◌, eqb, length, get_or, drop}
use Rattle.repair_regions.specs.Regions.{from}
use Rattle.whole.specs.Sums.{passing}

-- The polygon owns the triangle across a side, by the number of its reverse.
abbrev pub owns_across : List ℕ → ℕ → ℕ → Bool
owns_across owners polygon zero = false
owns_across owners polygon (suc o) = eqb (get_or owners (o / 3) 0) polygon

-- Side k bounds the polygon: its own triangle is the polygon's, and the one across is not.
abbrev pub bounds : List ℕ → List ℕ → ℕ → ℕ → Bool
bounds opposite owners polygon k = eqb (get_or owners (k / 3) 0) polygon && not (owns_across owners polygon (get_or opposite k 0))

-- The boundary sides by number.
abbrev pub boundary_numbers : List ℕ → List ℕ → ℕ → List ℕ
boundary_numbers opposite owners polygon = passing (bounds opposite owners polygon) (from 0 (length opposite))

-- Numbers laid down at the front of a lent list: r is how many they are, and what stands behind them is as it was.
pub record LaidDown (numbers before : List ℕ) (r : ℕ) (after : List ℕ) : Type 0 where
  pub many : r ≡ length numbers
  pub left : after ≡ numbers ++ drop r before
