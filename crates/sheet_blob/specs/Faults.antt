-- Where the reading of a header is refused: what is at fault at the field, and that nothing before it is.
use Rattle.std.specs.Prelude.{◌≡◌, List, ℕ, ◌≤◌, ◌<◌, length, get_or}
use Rattle.sheet_blob.specs.Opening.{kind_in, others_in}

-- The letters are there and are `GP`; the version is there too and is 0; and so are the flags, with an envelope kind of 0 or 1 and no other bit set.
abbrev pub Lettered : List ℕ → Type 0
Lettered s = (2 ≤ length s) × (get_or s 0 0 ≡ 71) × (get_or s 1 0 ≡ 80)

abbrev pub Versioned : List ℕ → Type 0
Versioned s = Lettered s × (3 ≤ length s) × (get_or s 2 0 ≡ 0)

abbrev pub Flagged : List ℕ → Type 0
Flagged s = Versioned s × (4 ≤ length s) × (others_in s ≡ 0) × (kind_in s < 2)

-- What can be at fault, with its code and the position told. 1: too few bytes are left for the field, which begins there. 50: other letters, another
-- version, or a bit of the flags that must be 0. 51: an envelope kind from 2 to 7.
pub data Fault (s : List ℕ) : ℕ → ℕ → Type 0 where
  letters_cut : length s < 2 → Fault s 1 0
  letters : 2 ≤ length s → ((get_or s 0 0 ≡ 71) × (get_or s 1 0 ≡ 80) → ⊥) → Fault s 50 0
  version_cut : Lettered s → length s < 3 → Fault s 1 2
  version : Lettered s → 3 ≤ length s → (get_or s 2 0 ≡ 0 → ⊥) → Fault s 50 0
  flags_cut : Versioned s → length s < 4 → Fault s 1 3
  flags : Versioned s → 4 ≤ length s → (others_in s ≡ 0 → ⊥) → Fault s 50 0
  kind : Versioned s → 4 ≤ length s → others_in s ≡ 0 → 2 ≤ kind_in s → Fault s 51 0
  number_cut : Flagged s → length s < 8 → Fault s 1 4
  envelope_cut : Flagged s → 8 ≤ length s → kind_in s ≡ 1 → length s < 40 → Fault s 1 8
