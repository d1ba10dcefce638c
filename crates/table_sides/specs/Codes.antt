-- Sides as one number each, by which they are looked up: the places of the two corners among the table's corners in ascending order.
use Rattle.std.specs.Prelude.{List, [], ◌∷◌, map, ℕ, ◌+◌, ◌*◌, ◌/◌, ◌%◌}
use Rattle.whole_order.specs.Ascending.{place_of}
use Rattle.table_sides.specs.Numbered.{number_in}

-- The code of the ordered pair of two corners; a table has at most 3,072 of them.
abbrev pub code_of : List ℕ → ℕ → ℕ → ℕ
code_of corners u v = place_of u corners * 4096 + place_of v corners

-- The code of the reverse of a pair.
abbrev pub turned : ℕ → ℕ
turned c = c % 4096 * 4096 + c / 4096

-- The codes of the sides that run from the corners of one list to those of another, one by one.
abbrev pub codes_of : List ℕ → List ℕ → List ℕ → List ℕ
codes_of corners [] l = []
codes_of corners (u ∷ k) [] = []
codes_of corners (u ∷ k) (v ∷ l) = code_of corners u v ∷ codes_of corners k l

-- For each code the number of its reverse.
abbrev pub turned_in : List ℕ → List ℕ
turned_in codes = map (λ c. number_in (turned c) codes) codes
