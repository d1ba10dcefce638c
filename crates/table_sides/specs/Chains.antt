-- The sides of a table hung in chains, one for each corner: the sides that begin there, the last one first. A chain is followed from the number of its last side to the
-- number of the side before it. All of it is one list of numbers, with a place for each side; there are no more corners than sides.
use Rattle.std.specs.Prelude.{◌≡◌, List, ℕ, suc, ◌/◌, ◌%◌, ◌≤◌, ◌<◌, length, get_or}

-- What a number of the list holds, from the lowest digits on: the number of the side before side i that begins at the same corner, the code of side i, the number of
-- the last side that begins at corner i, and 1 where no corner is inside side i. Numbers of sides are counted from 1, 0 stands for none.
abbrev pub next_in : ℕ → ℕ
next_in x = x % 4096

abbrev pub code_in : ℕ → ℕ
code_in x = x / 4096 % 16_777_216

abbrev pub head_in : ℕ → ℕ
head_in x = x / 68_719_476_736 % 4096

abbrev pub clear_in : ℕ → ℕ
clear_in x = x / 281_474_976_710_656

-- The place of the corner at which a side begins, by its code.
abbrev pub begin_in : ℕ → ℕ
begin_in x = code_in x / 4096

-- r is one more than the greatest number below n of which P holds; 0 where it holds of none.
pub record Last (P : ℕ → Type 0) (n r : ℕ) : Type 0 where
  pub within : r ≤ n
  pub there : (j : ℕ) → r ≡ suc j → P j
  pub none : (j : ℕ) → r ≤ j → j < n → P j → ⊥

-- The sides before the n-th hang in the chains: from each corner the last of them that begins there, from each of these sides the last before it.
pub record ChainedTo (index : List ℕ) (n : ℕ) : Type 0 where
  pub heads : (c : ℕ) → c < length index → Last (λ j. begin_in (get_or index j 0) ≡ c) n (head_in (get_or index c 0))
  pub nexts : (k : ℕ) → k < n → Last (λ j. begin_in (get_or index j 0) ≡ begin_in (get_or index k 0)) k (next_in (get_or index k 0))

-- All sides do.
abbrev pub Chained : List ℕ → Type 0
Chained index = ChainedTo index (length index)
