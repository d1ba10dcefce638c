-- What is answered after repair: the owner number of each triangle.
use Rattle.std.specs.Prelude.{List, ℕ, length}
use Rattle.lent.specs.Answered.{Outcome, bytes}

-- One byte per triangle, its number after repair; the item is the number of triangles.
abbrev pub numbers_after : List ℕ → Outcome
numbers_after owners = bytes (length owners) owners
