-- The closed lines by number are those of the sides, and how many bytes the lines of a set of triangles have: 9 for the whole, 16 for each boundary side, 25 for each
-- ring, since a line has a point for each side and one more. Assumes nothing.
use mathlib.Core.Path.{◌≡◌, refl, sym, ◌∙◌, ap, ap₂, subst}
use mathlib.Core.Bool.{Bool}
use mathlib.Core.List.{List, [], ◌∷◌, map, flat_map}
use Prim.Native.Nat.{ℕ, ◌+◌, ◌≤◌}
use native.Mathlib.Omega.{arith}
use lib.ListN.{length, length-append, length-map}
use Rattle.whole.specs.Sums.{All}
use Rattle.plane.specs.Points.{Edge, Triangle}
use Rattle.plane.specs.Members.{Ring}
use Rattle.lent_little.specs.Held.{end_of}
use Rattle.table.specs.Table.{frame_edges, RuleA, RuleB, RuleC}
use Rattle.table.specs.Sets.{SetOf, chosen}
use Rattle.table.proofs.Sets.{tally}
use Rattle.repair_longest.specs.Held.{point_held}
use Rattle.repair_sides.specs.Sides.{boundary_sides}
use Rattle.repair_rings.specs.Rings.{rings, points_of, lines}
use Rattle.repair_rings.proofs.Rings.{ClosedRing, all_closed, lines_points, a_third}
use Rattle.wkb_lines.specs.Room.{room_of, most_room}
use Rattle.wkb_lines.proofs.Room.{closed_room, third_most}
use Rattle.sheet_written.specs.Normal.{pair_of}
use Rattle.sheet_ring_bytes.specs.Lines.{line_bytes}
use Rattle.sheet_ring_bytes.specs.Held.{line_held}

-- ---- rings by number and rings of sides
-- Where the held corners are those of the sides, a line by number is the line of its sides.
module _ (numbers : List ℕ) (side : ℕ → Edge) (P : ℕ → Type 0) (corners : (k : ℕ) → P k → (point_held numbers k ≡ (side k).from) × (point_held numbers (end_of k) ≡ (side k).to)) where
  ends_held : (r : List ℕ) → All P r → map (λ d. point_held numbers (end_of d)) r ≡ map (λ d. d.to) (map side r)
  ends_held [] h = refl
  ends_held (k ∷ r) h = ap₂ (λ p l. p ∷ l) (corners k h.0).1 (ends_held r h.1)

  line_held_lem : (r : List ℕ) → All P r → line_held numbers r ≡ points_of (map side r)
  line_held_lem [] h = refl
  line_held_lem (k ∷ r) h = ap₂ (λ p l. p ∷ l) (corners k h.0).0 (ends_held (k ∷ r) h)

  pub lines_held : (rs : List (List ℕ)) → All (All P) rs → map (line_held numbers) rs ≡ map points_of (map (map side) rs)
  lines_held [] h = refl
  lines_held (r ∷ rs) h = ap₂ (λ l m. l ∷ m) (line_held_lem r h.0) (lines_held rs h.1)

-- No ring by number is empty, if none of sides is.
sides_begun : (side : ℕ → Edge) (rs : List (List ℕ)) → All ClosedRing (map (map side) rs) → All (λ r. 1 ≤ length r) rs
sides_begun side [] h = tt
sides_begun side (r ∷ rs) h = (omega (arith, h.0.three, length-map r side), sides_begun side rs h.1)

-- ---- how many bytes
points_tally : (ls : List Ring) → length (flat_map (λ l. l) (map (map pair_of) ls)) ≡ tally length ls
unfolding tally flat_map
points_tally [] = refl
points_tally (l ∷ ls) = omega (arith, length-append (map pair_of l) (flat_map (λ l. l) (map (map pair_of) ls)), length-map l pair_of, points_tally ls)

module _ (table : List Triangle) (area : RuleA table) (once : RuleB table) (framed : RuleC (frame_edges table) table) (s : List Bool) (fit : SetOf table s) where
  abbrev bound : List Edge
  bound = boundary_sides (chosen table s)

  pub begun : (side : ℕ → Edge) (rs : List (List ℕ)) → map (map side) rs ≡ rings bound → All (λ r. 1 ≤ length r) rs
  begun side rs e = sides_begun side rs (subst (All ClosedRing) (sym e) (all_closed table area once framed s fit))

  pub lines_room : length (line_bytes (lines bound)) ≡ room_of (length bound) (length (rings bound))
  lines_room =
      let many = length-map (lines bound) (map pair_of) ∙ length-map (rings bound) points_of in
      closed_room (map (map pair_of) (lines bound)) (length bound) (points_tally (lines bound) ∙ lines_points table area once framed s fit ∙ ap (λ n. length bound + n) (sym many)) ∙ ap (room_of (length bound)) many

  -- At most a third as many rings as sides: the bytes are never more than that takes.
  pub lines_most : length (line_bytes (lines bound)) ≤ most_room (length bound)
  lines_most = omega (arith, lines_room, third_most (length bound) (length (rings bound)) (a_third table area once framed s fit))
