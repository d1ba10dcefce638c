-- The figures of the listing: which triangles each is of, how many they are, and their double area.
use Rattle.std.specs.Prelude.{Bool, List, [], ◌∷◌, ℕ, ◌+◌, eqb}
use Rattle.owners_marks.specs.Sets.{standing_of}
use Rattle.listing_figures.specs.declared.Figure.{Figure}
use Rattle.listing_figures.specs.Standings.{is_gap, is_overlap}
use Rattle.listing_figures.specs.declared.Figure.TheVariants.{Gaps, Overlaps, After}

-- The figure is of a triangle with this owner set before repair and this number after: the gaps, the overlaps, the triangles that polygon k owns after it.
abbrev pub counts : Figure → ℕ → ℕ → Bool
counts Gaps set owner = is_gap (standing_of set)
counts Overlaps set owner = is_overlap (standing_of set)
counts (After k) set owner = eqb owner k

-- The marks of a figure's triangles.
abbrev pub marks_of : Figure → List ℕ → List ℕ → List Bool
marks_of figure [] owners = []
marks_of figure (set ∷ sets) [] = []
marks_of figure (set ∷ sets) (owner ∷ owners) = counts figure set owner ∷ marks_of figure sets owners

-- The sum of a list of numbers.
abbrev pub total : List ℕ → ℕ
total [] = 0
total (n ∷ l) = n + total l
