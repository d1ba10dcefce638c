-- Neighbours kept beside the table: for each triangle and side the number of the triangle with the reversed side, as bytes. A lent index has to be the table's own.
use Rattle.std.specs.Prelude.{Bool, true, false, cond, ◌&&◌, ℕ, eqb}
use mathlib.Core.List.{List, [], ◌∷◌, map, flat_map}
use Rattle.std.proofs.Math.Option.{Option, none, some}
use Rattle.whole.specs.Sums.{any}
use Rattle.plane.specs.Points.{Edge, Triangle, flip, sides, same_edge}
use Rattle.plane.specs.Boundaries.{sides_of}
use Rattle.lent.specs.Stages.{Answer, value, needing}
use Rattle.lent_little.specs.Ordered.{bytes}
use Rattle.table.specs.Opposites.{later}

-- The number, counted from 1, of the first triangle with the side e; 0 where none has it.
abbrev pub triangle_with : Edge → List Triangle → ℕ
triangle_with e [] = 0
triangle_with e (t ∷ l) = cond (any (λ d. same_edge d e) (sides t)) 1 (later (triangle_with e l))

-- For each triangle and side, by triangle and then ab, bc, ca, the number of the triangle with the reversed side; 0 for none.
unfoldable pub index_of : List Triangle → List ℕ
index_of table = map (λ e. triangle_with (flip e) table) (sides_of table)

-- The table's own index: each number as a little-endian u16.
abbrev pub u16 : ℕ → List ℕ
u16 n = bytes 2 n

abbrev pub own_index : List Triangle → List ℕ
own_index table = flat_map u16 (index_of table)

-- Two lists of bytes are the same, in length and content.
abbrev pub same_bytes : List ℕ → List ℕ → Bool
same_bytes [] [] = true
same_bytes [] (b ∷ m) = false
same_bytes (a ∷ l) [] = false
same_bytes (a ∷ l) (b ∷ m) = eqb a b && same_bytes l m

-- An index that is lent has to be the table's own: 53 where it differs in length or content.
abbrev pub indexed : Option (List ℕ) → List Triangle → Answer (Unit {0})
indexed none table = value tt
indexed (some index) table = needing (same_bytes index (own_index table)) 53 0

-- An index or none, by whether one is lent.
abbrev pub lent_if : Bool → List ℕ → Option (List ℕ)
lent_if false index = none
lent_if true index = some index
