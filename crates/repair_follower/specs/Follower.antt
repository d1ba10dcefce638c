-- The boundary side that follows an arriving one, by the numbers of the table's sides, counted from 0: the sides that leave the corner are gone through
-- anticlockwise, from the arriving side on, up to the first of the polygon's triangles. That is the sharpest turn to the right.
use Rattle.std.specs.Prelude.{Bool, cond, List, ℕ, zero, suc, ◌+◌, ◌-◌, ◌/◌, ◌%◌, eqb, length, get_or}
use Rattle.lent_little.specs.Held.{end_of}

-- From a side on, step by step, the first that passes a test; n steps at most.
abbrev pub first_along : (ℕ → Bool) → (ℕ → ℕ) → ℕ → ℕ → ℕ
first_along test step zero k = k
first_along test step (suc n) k = cond (test k) k (first_along test step n (step k))

-- The side of the same triangle that ends where side k begins. (The one that leaves where it ends has the number of the corner there.)
abbrev pub side_before : ℕ → ℕ
side_before k = k - k % 3 + (k + 2) % 3

-- No triangle is across the side. The next side clockwise round the corner at which it begins, where one is.
abbrev pub on_frame : List ℕ → ℕ → Bool
on_frame opposite k = eqb (get_or opposite k 0) 0

abbrev pub clockwise : List ℕ → ℕ → ℕ
clockwise opposite k = end_of (get_or opposite k 0 - 1)

-- From a side on, clockwise round the corner at which it begins, the one that runs along the frame.
abbrev pub along_frame : List ℕ → ℕ → ℕ
along_frame opposite = first_along (on_frame opposite) (clockwise opposite) (length opposite)

-- The first side anticlockwise round the end of side k: the reverse of k, or that along the frame.
abbrev pub turned_to : List ℕ → ℕ → ℕ
turned_to opposite k = cond (on_frame opposite k) (along_frame opposite (end_of k)) (get_or opposite k 0 - 1)

-- The side is one of the polygon's triangles. The next side anticlockwise round the corner at which it begins.
abbrev pub own_side : List ℕ → ℕ → ℕ → Bool
own_side owners polygon k = eqb (get_or owners (k / 3) 0) polygon

abbrev pub anticlockwise : List ℕ → ℕ → ℕ
anticlockwise opposite k = turned_to opposite (side_before k)

-- The side that follows boundary side k.
abbrev pub follower : (opposite owners : List ℕ) → (polygon k : ℕ) → ℕ
follower opposite owners polygon k = first_along (own_side owners polygon) (anticlockwise opposite) (length opposite) (turned_to opposite k)
