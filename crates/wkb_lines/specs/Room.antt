-- How many bytes closed lines have, by the number of their sides.
use Rattle.std.specs.Prelude.{ℕ, ◌+◌, ◌*◌, ◌/◌}

-- So many rings of so many sides: 9 for the whole, 16 for each side, and 25 for each ring, which has a header and one more point than sides.
abbrev pub room_of : (sides rings : ℕ) → ℕ
room_of sides rings = 9 + 16 * sides + 25 * rings

-- The most that rings of three sides or more have, so many sides in all.
abbrev pub most_room : (sides : ℕ) → ℕ
most_room sides = 9 + 16 * sides + 25 * (sides / 3)
