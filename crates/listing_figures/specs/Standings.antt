-- What a triangle is by its owners before repair: a gap, a single owner's, an overlap; and what the owners own, each by itself.
use Rattle.std.specs.Prelude.{Bool, true, false, List, [], ◌∷◌, ℕ, ℤ, pos, ◌+ℤ◌, ◌*ℤ◌, length}
use Rattle.plane.specs.Points.{Triangle, double}
use Rattle.owners_marks.specs.declared.Standing.{Standing}
use Rattle.owners_marks.specs.declared.Standing.TheVariants.{Gap, Single, Overlap}

-- A triangle with no owner is a gap, with one it is single, with two or more an overlap.
abbrev pub is_gap : Standing → Bool
is_gap Gap = true
is_gap (Single k) = false
is_gap (Overlap k) = false

abbrev pub is_single : Standing → Bool
is_single Gap = false
is_single (Single k) = true
is_single (Overlap k) = false

abbrev pub is_overlap : Standing → Bool
is_overlap Gap = false
is_overlap (Single k) = false
is_overlap (Overlap k) = true

-- The double area of each triangle as often as it has owners.
abbrev pub owing : List Triangle → List (List ℕ) → ℤ
owing [] l = pos 0
owing (t ∷ table) [] = pos 0
owing (t ∷ table) (o ∷ l) = double t *ℤ pos (length o) +ℤ owing table l
