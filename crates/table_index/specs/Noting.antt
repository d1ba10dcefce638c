-- How it is noted of each side of a table whether no corner is inside it.
use Rattle.std.specs.Prelude.{◌≡◌, ◌⊎◌, List, ℕ, ◌/◌, ◌%◌, ◌≤◌, ◌<◌, length, get_or}
use Rattle.table_sides.specs.Chains.{next_in, code_in, head_in, clear_in}
use Rattle.table_count.specs.Counting.{ClearOf}

-- What is added to the number of a side with this code: 1 where no corner is inside it, at the digit for that; or nothing.
abbrev pub Noted : List ℕ → ℕ → ℕ → Type 0
Noted corners code r = (r ≡ 0) ⊎ ((r ≡ 281_474_976_710_656) × ClearOf corners (get_or corners (code / 4096) 0) (get_or corners (code % 4096) 0))

-- The chains are as they were, and of the first n sides with these codes it is noted that no corner is inside only where that is so; of the others it is not noted.
pub record NotedTo (corners codes before after : List ℕ) (n : ℕ) : Type 0 where
  pub number : length after ≡ length before
  pub nexts : (i : ℕ) → next_in (get_or after i 0) ≡ next_in (get_or before i 0)
  pub codes_are : (i : ℕ) → code_in (get_or after i 0) ≡ code_in (get_or before i 0)
  pub heads : (i : ℕ) → head_in (get_or after i 0) ≡ head_in (get_or before i 0)
  pub clear : (i : ℕ) → i < n → 0 < clear_in (get_or after i 0) → ClearOf corners (get_or corners (get_or codes i 0 / 4096) 0) (get_or corners (get_or codes i 0 % 4096) 0)
  pub left : (i : ℕ) → n ≤ i → i < length codes → clear_in (get_or after i 0) ≡ 0
