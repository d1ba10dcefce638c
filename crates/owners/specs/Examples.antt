-- Document 01's starred examples on the strip table, as one table of inputs and answers. (Example 7 has no ground.)
use Rattle.std.specs.Prelude.{List, [], ◌∷◌, ◌++◌, ℕ, ℤ, pos, length}
use Rattle.whole.specs.Sums.{sum}
use Rattle.plane.specs.Points.{Point, Triangle, double}
use Rattle.plane.specs.Members.{Member}
use Rattle.lent.specs.Stages.{Answer, value, refused, and_then}
use Rattle.table.specs.Table.{frame_edges, check_table}
use Rattle.table.specs.Sets.{chosen}
use Rattle.owners.specs.Judging.{judge}
use Rattle.owners.specs.Owners.{stage_of}

-- The point (x, y).
abbrev pub at : ℕ → ℕ → Point
at x y = record { x = pos x; y = pos y }

-- The strip from a to b: the triangles (a,0)(b,0)(b,4) and (a,0)(b,4)(a,4).
abbrev pub strip : ℕ → ℕ → List Triangle
strip a b = record { a = at a 0; b = at b 0; c = at b 4 } ∷ record { a = at a 0; b = at b 4; c = at a 4 } ∷ []

-- The strip table: x at 0, 2, 4, 6, 8.
abbrev pub strips : List Triangle
strips = strip 0 2 ++ strip 2 4 ++ strip 4 6 ++ strip 6 8

-- The same without its last triangle, and with its first triangle listed again at the end.
abbrev pub short : List Triangle
short = strip 0 2 ++ strip 2 4 ++ strip 4 6 ++ record { a = at 6 0; b = at 8 0; c = at 8 4 } ∷ []

abbrev pub again : List Triangle
again = strips ++ record { a = at 0 0; b = at 2 0; c = at 2 4 } ∷ []

-- A polygon of one ring, the closing point left out.
abbrev pub ring : List Point → Member
ring [] = (([]) ∷ []) ∷ []
ring (p ∷ l) = (((p ∷ l) ++ p ∷ []) ∷ []) ∷ []

-- An example is a member judged on the strip table, or a table checked.
pub data Example : Type 0 where
  polygon : Member → Example
  table : List Triangle → Example

-- What it shows where it is not refused: the member, polygon 1, is carried by so many triangles with this double area; the table passes.
pub data Shown : Type 0 where
  carried_by : (triangles : ℕ) (area : ℤ) → Shown
  sound : Shown

abbrev pub answer : Example → Answer Shown
answer (polygon m) = and_then (stage_of 1 (judge strips m)) (λ s. value (carried_by (length (chosen strips s)) (sum double (chosen strips s))))
answer (table t) = and_then (check_table (frame_edges t) t) (λ _. value sound)

-- The strip table itself, which passes the three rules, and examples 1 to 10.
abbrev pub rectangle : Member
rectangle = ring (at 0 0 ∷ at 4 0 ∷ at 4 4 ∷ at 0 4 ∷ [])

abbrev pub examples : List Example
examples =
    table strips
    ∷ polygon rectangle
    ∷ polygon (ring (at 0 0 ∷ at 0 4 ∷ at 4 4 ∷ at 4 0 ∷ []))
    ∷ polygon (ring (at 0 0 ∷ at 2 0 ∷ at 2 4 ∷ []))
    ∷ polygon (ring (at 0 0 ∷ at 4 0 ∷ at 4 4 ∷ []))
    ∷ polygon (ring (at 0 0 ∷ at 1 0 ∷ at 2 0 ∷ at 2 4 ∷ at 0 4 ∷ []))
    ∷ polygon (ring (at 0 0 ∷ at 2 0 ∷ at 4 0 ∷ at 2 0 ∷ at 2 4 ∷ at 0 4 ∷ []))
    ∷ polygon (ring (at 0 0 ∷ at 2 0 ∷ at 0 0 ∷ []))
    ∷ polygon (rectangle ++ rectangle)
    ∷ table short
    ∷ table again
    ∷ []

abbrev pub answers : List (Answer Shown)
answers =
    value sound
    ∷ value (carried_by 4 (pos 32))
    ∷ refused 20 1
    ∷ value (carried_by 1 (pos 8))
    ∷ refused 20 1
    ∷ refused 20 1
    ∷ value (carried_by 2 (pos 16))
    ∷ refused 21 1
    ∷ refused 20 1
    ∷ refused 12 0
    ∷ refused 11 9
    ∷ []
