-- The lengths of a table's sides off the held numbers, and what is at hand while they are added up.
use Rattle.std.specs.Prelude.{List, map, ℕ, ◌+◌, ◌*◌, ◌≤◌, ◌<◌, length, get_or}
use Rattle.plane.specs.Corners.{millimetres}
use Rattle.plane.specs.Keys.{Held}
use Rattle.plane.specs.Points.{Point, ◌⟶◌}
use Rattle.plane_lengths.specs.Lengths.{length_of}
use Rattle.lent_little.specs.Held.{end_of}
use Rattle.repair_regions.specs.Regions.{from}
use Rattle.repair_choices.specs.Adding.{Adding}

-- The corners of n triangles stand behind the first of the held numbers.
pub record TableIn (table : List ℕ) (n : ℕ) : Type 0 where
  pub room : 1 + 6 * n ≤ length table
  pub held : (i : ℕ) → i < 1 + 6 * n → Held (get_or table i 0)

-- Corner c of the table, and the length of side k, which runs from corner k to the next of its triangle.
abbrev pub point_held : List ℕ → ℕ → Point
point_held table c = record { x = millimetres (get_or table (2 * c + 1) 0); y = millimetres (get_or table (2 * c + 2) 0) }

unfoldable pub length_held : List ℕ → ℕ → ℕ
length_held table k = length_of (point_held table k ⟶ point_held table (end_of k))

-- The lengths of so many sides.
abbrev pub lengths_held : List ℕ → ℕ → List ℕ
lengths_held table n = map (length_held table) (from 0 n)

-- At most c sides have been met, with these sums and this number favoured.
abbrev pub Met : ℕ → List ℕ → List ℕ → List ℕ → List ℕ → ℕ → Type 0
Met c table opposite numbers sums best = (sides : List ℕ) × Adding (lengths_held table (length opposite)) opposite numbers sides sums best × (length sides ≤ c)
