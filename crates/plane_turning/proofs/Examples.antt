-- Worked examples: for one who arrives eastward, the sharpest turn to the right of all that leave there, in whatever order they stand. Each is computed from the
-- definitions. Assumes nothing.
use mathlib.Core.Path.{◌≡◌, refl}
use mathlib.Core.List.{[], ◌∷◌}
use Prim.Native.Nat.{ℕ}
use lib.IntN.{pos}
use Rattle.plane.specs.Points.{Point, Edge, ◌⟶◌, turn}
use Rattle.plane_turning.specs.Turning.{sharper, sharpest, following}

abbrev at : ℕ → ℕ → Point
at x y = record { x = pos x; y = pos y }

-- The side that arrives, and ways on: sharply and less sharply to the right, straight on, less sharply and sharply to the left.
abbrev arriving : Edge
arriving = at 0 3 ⟶ at 3 3

abbrev back_right : Edge
back_right = at 3 3 ⟶ at 1 0

abbrev right : Edge
right = at 3 3 ⟶ at 4 1

abbrev straight : Edge
straight = at 3 3 ⟶ at 5 3

abbrev left : Edge
left = at 3 3 ⟶ at 4 5

abbrev back_left : Edge
back_left = at 3 3 ⟶ at 1 5

-- A side that leaves another corner, however sharp.
abbrev elsewhere : Edge
elsewhere = at 1 0 ⟶ at 3 0

pub right_first : following (back_right ∷ right ∷ straight ∷ left ∷ back_left ∷ elsewhere ∷ []) arriving ≡ back_right
unfolding following sharpest sharper turn
right_first = refl

pub right_last : following (elsewhere ∷ back_left ∷ left ∷ straight ∷ right ∷ back_right ∷ []) arriving ≡ back_right
unfolding following sharpest sharper turn
right_last = refl

pub right_before_straight : following (left ∷ straight ∷ right ∷ back_left ∷ []) arriving ≡ right
unfolding following sharpest sharper turn
right_before_straight = refl

pub straight_before_left : following (back_left ∷ straight ∷ left ∷ []) arriving ≡ straight
unfolding following sharpest sharper turn
straight_before_left = refl

pub left_before_back : following (back_left ∷ left ∷ back_left ∷ []) arriving ≡ left
unfolding following sharpest sharper turn
left_before_back = refl

pub none_leaves : following (elsewhere ∷ arriving ∷ []) arriving ≡ arriving
unfolding following sharpest sharper turn
none_leaves = refl
