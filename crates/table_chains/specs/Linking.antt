-- How the sides of a table are hung in chains one by one.
use Rattle.std.specs.Prelude.{◌≡◌, List, ℕ, suc, ◌/◌, ◌%◌, ◌≤◌, ◌<◌, length, get_or}
use Rattle.table_sides.specs.Chains.{next_in, code_in, head_in, clear_in, ChainedTo}

-- The code of a side is of two corners with places below n.
abbrev pub Within : ℕ → ℕ → Type 0
Within n c = (c / 4096 < n) × (c % 4096 < n)

-- The first n of the sides with these codes hang in the chains, and of none it is noted whether a corner is inside.
pub record LinkedTo (codes index : List ℕ) (n : ℕ) : Type 0 where
  pub number : length index ≡ length codes
  pub codes_are : (i : ℕ) → i < length codes → code_in (get_or index i 0) ≡ get_or codes i 0
  pub unnoted : (i : ℕ) → i < length codes → clear_in (get_or index i 0) ≡ 0
  pub left : (i : ℕ) → n ≤ i → i < length codes → next_in (get_or index i 0) ≡ 0
  pub chained : ChainedTo index n

-- Side k is put at the front of the chain of the corner with place c; nothing else changes.
pub record Hung (before after : List ℕ) (c k : ℕ) : Type 0 where
  pub number : length after ≡ length before
  pub codes : (i : ℕ) → code_in (get_or after i 0) ≡ code_in (get_or before i 0)
  pub unnoted : (i : ℕ) → i < length before → clear_in (get_or after i 0) ≡ 0
  pub next : next_in (get_or after k 0) ≡ head_in (get_or before c 0)
  pub nexts : (i : ℕ) → (i ≡ k → ⊥) → next_in (get_or after i 0) ≡ next_in (get_or before i 0)
  pub head : head_in (get_or after c 0) ≡ suc k
  pub heads : (i : ℕ) → (i ≡ c → ⊥) → head_in (get_or after i 0) ≡ head_in (get_or before i 0)
