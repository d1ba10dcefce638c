-- The index as the code has it, by the numbers of the reverses of the sides.
use mathlib.Core.List.{List, flat_map}
use Rattle.std.specs.Prelude.{ℕ, zero, suc, ◌/◌, length}
use Rattle.lent.specs.Answered.{Outcome, bytes}
use Rattle.table_neighbours.specs.Neighbours.{u16}

-- The number of the triangle that has the side of a number; both are counted from 1, and 0 stands for none.
abbrev pub triangle_of : ℕ → ℕ
triangle_of zero = 0
triangle_of (suc o) = suc (o / 3)

abbrev pub held_index : List ℕ → List ℕ
held_index opposite = flat_map (λ o. u16 (triangle_of o)) opposite

-- Bytes as an answer; the item is their number.
abbrev pub whole_outcome : List ℕ → Outcome
whole_outcome l = bytes (length l) l
