-- A polygon has at most half as many edges as numbers: each point is two numbers, and a ring has one edge less than points. So two lists with room for half
-- of a sheet's numbers have room for the edges of each of its polygons. Assumes nothing.
use mathlib.Core.Path.{sym, ◌∙◌, ap}
use mathlib.Core.List.{List, [], ◌∷◌, flat_map}
use Prim.Native.Nat.{ℕ, ◌*◌, ◌≤◌}
use native.Mathlib.Omega.{arith}
use lib.IntN.{ℤ}
use lib.ListN.{length, drop, length-append, length-map, length-drop}
use Rattle.plane.specs.Points.{Edge}
use Rattle.plane.specs.Members.{Ring, Polygon, Member, edges, member_edges}
use Rattle.plane.specs.Corners.{millimetres}
use Rattle.sheet_form.specs.Numbers.{point_numbers, ring_numbers, part_numbers, member_numbers}
use Rattle.judged_sets.specs.Owning.{PolygonAt, EdgeRoom}

-- What holds of each thing holds of the list of them.
all_half : {A : Type 0} (f : A → List ℤ) (g : A → List Edge) → ((a : A) → 2 * length (g a) ≤ length (f a)) → (l : List A) → 2 * length (flat_map g l) ≤ length (flat_map f l)
unfolding flat_map
all_half f g h [] = omega arith
all_half f g h (a ∷ l) = omega (arith, h a, all_half f g h l, length-append (g a) (flat_map g l), length-append (f a) (flat_map f l))

ring_half : (r : Ring) → 2 * length (edges r) ≤ length (flat_map point_numbers r)
unfolding flat_map
ring_half [] = omega arith
ring_half (p ∷ []) = omega arith
ring_half (p ∷ q ∷ l) = omega (arith, ring_half (q ∷ l))

part_half : (p : Polygon) → 2 * length (flat_map edges p) ≤ length (part_numbers p)
part_half p = omega (arith, all_half ring_numbers edges (λ r. omega (arith, ring_half r)) p)

member_half : (m : Member) → 2 * length (member_edges m) ≤ length (member_numbers m)
member_half m = omega (arith, all_half part_numbers (flat_map edges) part_half m)

-- The edges of a polygon that stands among the numbers have room.
pub edges_room : {numbers : List ℕ} {at : ℕ} {m : Member} {rest : List ℤ} (l : List ℕ) → PolygonAt numbers at m rest → EdgeRoom numbers l → length (member_edges m) ≤ length l
edges_room {numbers} {at} {m} {rest} l p room =
    room (length (member_edges m)) p.few
    (omega (arith, member_half m, sym (length-append (member_numbers m) rest) ∙ sym (ap length p.numbers_at) ∙ length-map (drop at numbers) millimetres, length-drop at numbers))
