-- The table as the code holds it: its corners as numbers, three for each triangle; its sides in table order, by triangle and then ab, bc, ca.
use Rattle.std.specs.Prelude.{◌≡◌, Bool, false, List, [], ◌∷◌, ℕ, zero, suc, ◌-◌, ◌/◌, ◌%◌, ◌<◌, ℤ, pos, ◌-ℤ◌, length, get_or, Option as Answered, None, Some}
use Rattle.std.proofs.Math.Option.{Option, none, some}
use Rattle.whole.specs.Sums.{Among, bit}
use Rattle.plane.specs.Boundaries.{boundary, sides_of}
use Rattle.plane.specs.Points.{Edge, Triangle, flip, same_edge}
use Rattle.plane.specs.Keys.{point_at, pair}
use Rattle.table.specs.Sets.{chosen}

-- The triangles whose corners these are.
abbrev pub triangles_of : List ℕ → List Triangle
triangles_of [] = []
triangles_of (a ∷ []) = []
triangles_of (a ∷ b ∷ []) = []
triangles_of (a ∷ b ∷ c ∷ l) = record { a = point_at a; b = point_at b; c = point_at c } ∷ triangles_of l

-- The corner at which each side ends: side k runs from corner k to this one. Side k is of triangle k / 3, counted from 0.
abbrev pub tails_of : List ℕ → List ℕ
tails_of [] = []
tails_of (a ∷ []) = []
tails_of (a ∷ b ∷ []) = []
tails_of (a ∷ b ∷ c ∷ l) = b ∷ c ∷ a ∷ tails_of l

abbrev pub side_at : List ℕ → ℕ → Edge
side_at keys k = pair (get_or keys k 0) (get_or (tails_of keys) k 0)

-- What a set of triangles has across a side, by the number of its reverse: 1 where the triangle there is in the set.
abbrev pub mark : List Bool → ℕ → ℕ
mark s t = bit (get_or s t false)

abbrev pub across : List Bool → ℕ → ℕ
across s zero = 0
across s (suc o) = mark s (o / 3)

-- The boundary of a set of triangles at a side: 1 for the side's own triangle, less 1 for the triangle across.
abbrev pub share : List ℕ → List Bool → ℕ → ℤ
share opposite s k = pos (mark s (k / 3)) -ℤ pos (across s (get_or opposite k 0))

-- A net count is held with 2,147,483,648 added: so the count of none, and the count of one.
abbrev pub evenly : ℕ
evenly = 2_147_483_648

abbrev pub once : ℕ
once = 2_147_483_649

abbrev pub net_of : ℕ → ℤ
net_of n = pos n -ℤ pos evenly

-- The count at a side is that of the set's boundary,
abbrev pub SharesAt : List ℕ → List ℕ → List Bool → ℕ → Type 0
SharesAt opposite counts s k = net_of (get_or counts k 0) ≡ share opposite s k

-- and so are the counts at all sides.
abbrev pub Shares : List ℕ → List ℕ → List Bool → Type 0
Shares opposite counts s = (k : ℕ) → k < length opposite → SharesAt opposite counts s k

-- The item of a fault found: the triangle's number; 0 where there is none.
abbrev pub item_of : Option ℕ → ℕ
item_of none = 0
item_of (some n) = n

-- The number of a fault as the code answers it: the same, or none.
abbrev pub found : Answered ℕ → Option ℕ
found None = none
found (Some n) = some n

-- A side of an earlier triangle is the same as side k. (Sides by their codes, which are equal exactly if the sides are the same ordered pair.)
abbrev pub Earlier : List ℕ → ℕ → Type 0
Earlier codes k = (j : ℕ) × (j < k - k % 3) × (get_or codes j 0 ≡ get_or codes k 0)

-- No side below the n-th is one of an earlier triangle.
abbrev pub NoneBelow : List ℕ → ℕ → Type 0
NoneBelow codes n = (k : ℕ) → k < n → Earlier codes k → ⊥

-- The number, counted from 1, of the triangle of the first side that is one of an earlier triangle; 0 where there is no such side.
abbrev pub FirstRepeat : List ℕ → ℕ → Type 0
FirstRepeat codes zero = NoneBelow codes (length codes)
FirstRepeat codes (suc t) = (k : ℕ) × (k < length codes) × (t ≡ k / 3) × Earlier codes k × NoneBelow codes k

-- A set that has with a triangle also the triangle across each of its sides, where the table has one.
abbrev pub Closed : List Triangle → List Bool → Type 0
Closed table s = (e : Edge) → Among same_edge e (sides_of (chosen table s)) → Among same_edge (flip e) (sides_of table) → Among same_edge (flip e) (sides_of (chosen table s))

-- A list of ordered pairs has no boundary: zero at every ordered pair.
abbrev pub NoBoundary : List Edge → Type 0
NoBoundary l = (e : Edge) → boundary l e ≡ pos 0
