-- The bytes of numbers and sides off the numbers that the code holds.
use Rattle.std.specs.Prelude.{List, ◌++◌, ℕ, ◌+◌, ◌-◌, ◌*◌, ◌%◌, ◌≤◌, length, get_or}
use Rattle.plane.specs.Corners.{millimetres}
use Rattle.lent_little.specs.Bytes.{i32}

-- A held number as a little-endian i32.
abbrev pub held_bytes : ℕ → List ℕ
held_bytes h = i32 (millimetres h)

-- Side k of the table off the held numbers: corner k, and then the next corner of its triangle.
abbrev pub end_of : ℕ → ℕ
end_of k = k - k % 3 + (k + 1) % 3

abbrev pub corner_held : List ℕ → ℕ → List ℕ
corner_held numbers c = held_bytes (get_or numbers (2 * c + 1) 0) ++ held_bytes (get_or numbers (2 * c + 2) 0)

abbrev pub side_held : List ℕ → ℕ → List ℕ
side_held numbers k = corner_held numbers k ++ corner_held numbers (end_of k)

-- The corners of the triangle of side k are among the numbers.
abbrev pub SideIn : List ℕ → ℕ → Type 0
SideIn numbers k = 2 * (k - k % 3) + 7 ≤ length numbers
