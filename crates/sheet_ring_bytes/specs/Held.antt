-- The closed lines as the code comes to them: by the numbers of the sides, off the held numbers.
use Rattle.std.specs.Prelude.{Result, Ok, Err, ◌≡◌, ℕ, ◌-◌, ◌≤◌, ◌<◌, length, take, drop}
use mathlib.Core.List.{List, [], ◌∷◌, map, flat_map}
use Rattle.whole.specs.Sums.{All}
use Rattle.plane.specs.Members.{Ring}
use Rattle.lent.specs.declared.Refusal.{Refusal}
use Rattle.lent.specs.Refusals.{refused_as}
use Rattle.lent.specs.Stages.{Answer, value, and_then}
use Rattle.lent.specs.Answered.{Outcome}
use Rattle.lent_little.specs.Held.{end_of}
use Rattle.repair_longest.specs.Held.{point_held}
use Rattle.repair.specs.Ways.{repaired_by}
use Rattle.repair_sides.specs.Numbered.{boundary_numbers}
use Rattle.repair_follower.specs.Follower.{follower}
use Rattle.repair_ring_walk.specs.Walk.{ring_numbers, ends_from}
use Rattle.sheet_ring_bytes.specs.Lines.{lines_outcome, room_outcome}
use Rattle.sheet_ring_bytes.specs.declared.Joined.{Joined}

-- The points of a ring of sides by number: where the first begins, and where each ends.
abbrev pub line_held : List ℕ → List ℕ → Ring
line_held numbers [] = []
line_held numbers (k ∷ r) = point_held numbers k ∷ map (λ d. point_held numbers (end_of d)) (k ∷ r)

-- The rings of the polygon's boundary sides by number.
abbrev pub polygon_rings : (opposite owners : List ℕ) → ℕ → List (List ℕ)
polygon_rings opposite owners polygon =
    ring_numbers (length (boundary_numbers opposite owners polygon)) (follower opposite owners polygon) [] (boundary_numbers opposite owners polygon)

-- The closed lines of a polygon after repair in a way, and the room that they take.
abbrev pub rings_outcome : List ℕ → ℕ → List ℕ → List ℕ → List (List ℕ) → ℕ → Outcome
rings_outcome numbers way lengths opposite owners polygon =
    and_then (repaired_by way lengths opposite owners) (λ l. lines_outcome (map (line_held numbers) (polygon_rings opposite l polygon)))

abbrev pub ring_room_outcome : List ℕ → ℕ → List ℕ → List ℕ → List (List ℕ) → ℕ → Outcome
ring_room_outcome numbers way lengths opposite owners polygon =
    and_then (repaired_by way lengths opposite owners) (λ l. room_outcome (map (line_held numbers) (polygon_rings opposite l polygon)))

-- ---- rings that stand one behind the other in a list
-- The rings from a place on, by where each ends; and none of them is empty.
abbrev pub rings_in : ℕ → (order ends : List ℕ) → List (List ℕ)
rings_in at order [] = []
rings_in at order (e ∷ ends) = take (e - at) (drop at order) ∷ rings_in e order ends

abbrev pub Rising : ℕ → (ends : List ℕ) → ℕ → Type 0
Rising at [] n = Unit {0}
Rising at (e ∷ ends) n = (at < e) × (e ≤ n) × Rising e ends n

-- Rings laid down: their sides at the front of one list, one ring behind the other, k in all; where each ends at the front of the other, r in all.
pub record Standing (rings : List (List ℕ)) (k r : ℕ) (order ends : List ℕ) : Type 0 where
  pub order_room : k ≤ length order
  pub sides : take k order ≡ flat_map (λ l. l) rings
  pub ends_room : r ≤ length ends
  pub ended : take r ends ≡ ends_from 0 rings

-- What repair and joining left: the rings of the owner numbers that repair comes to, or a refusal of repair.
abbrev pub JoinedBy : Answer (List ℕ) → (List ℕ → List (List ℕ)) → Result Joined Refusal → (order ends : List ℕ) → Type 0
JoinedBy repaired rings (Ok j) order ends = (l : List ℕ) × (repaired ≡ value l) × Standing (rings l) j.sides j.rings order ends
JoinedBy repaired rings (Err r) order ends = repaired ≡ refused_as r

-- Whatever owner numbers repair comes to, no ring is empty.
abbrev pub Begun : Answer (List ℕ) → (List ℕ → List (List ℕ)) → Type 0
Begun repaired rings = (l : List ℕ) → repaired ≡ value l → All (λ r. 1 ≤ length r) (rings l)
