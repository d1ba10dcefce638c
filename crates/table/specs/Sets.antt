-- Sets of triangles of a table: a mark for each triangle, in table order.
use Rattle.std.specs.Prelude.{◌≡◌, Bool, true, false, List, [], ◌∷◌, ◌++◌, map, length}
use Rattle.plane.specs.Points.{Triangle}

-- A set of triangles of the table: as many marks as triangles.
abbrev pub SetOf : List Triangle → List Bool → Type 0
SetOf table s = length s ≡ length table

-- The members of a list that are marked.
abbrev pub chosen : {A : Type 0} → List A → List Bool → List A
chosen [] s = []
chosen (a ∷ l) [] = []
chosen (a ∷ l) (true ∷ s) = a ∷ chosen l s
chosen (a ∷ l) (false ∷ s) = chosen l s

-- All sets of triangles of a table.
abbrev pub all_sets : List Triangle → List (List Bool)
all_sets [] = [] ∷ []
all_sets (t ∷ l) = map (λ s. true ∷ s) (all_sets l) ++ map (λ s. false ∷ s) (all_sets l)
