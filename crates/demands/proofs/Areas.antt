-- Request No. 4: "Work a ring's sum with one product at each corner, its x times the difference of the y after it and the y before it, not two for each edge. No answer
-- changes." A double area is the sum over edges, by definition; here is what the areas entry writes of it.
-- The idea: a closed ring's products at the corners sum up to its shares of edges; a sheet that is read has closed rings and small coordinates. Assumes nothing.
use mathlib.Core.Path.{◌≡◌, refl, sym, ◌∙◌, ap₂, subst}
use mathlib.Core.Bool.{Bool}
use mathlib.Core.List.{List, [], ◌∷◌, map, flat_map}
use Prim.Native.Nat.{ℕ, ◌+◌, ◌*◌, ◌≤◌, ◌<◌}
use native.Mathlib.Omega.{arith}
use lib.IntN.{ℤ, ◌+ℤ◌}
use lib.ListN.{length, length-append}
use mir.Syntax.{w64}
use mir.Val.{to_z, of_z}
use Rattle.whole.specs.Numbers.{Within}
use Rattle.whole.specs.Sums.{All, sum}
use Rattle.whole.proofs.Bound.{within_add, within_sub, within_mul, within_gap, exact}
use Rattle.whole.proofs.Sums.{all_left, all_right, all_map, sum-++}
use Rattle.plane.specs.Points.{Edge, Triangle, cross, double}
use Rattle.plane.specs.Members.{Ring, Polygon, Member, edges, member_edges, double_area}
use Rattle.plane.specs.Corners.{millimetres}
use Rattle.plane.specs.Keys.{Held}
use Rattle.plane_rings.specs.Rings.{ring_area}
use Rattle.plane_rings.specs.Closed.{RingLimits}
use Rattle.plane_rings.specs.Corners.{corner_sum}
use Rattle.plane_rings.proofs.Areas.{corner_sum_lem}
use Rattle.lent.specs.Stages.{value}
use Rattle.table.specs.Table.{RuleA, RuleB}
use Rattle.table.specs.Sets.{chosen}
use Rattle.owners.specs.Judging.{carried as carried_by, judge}
use Rattle.sheet_form.specs.Numbers.{Sheet, members, point_numbers, ring_numbers, part_numbers, member_numbers, counted, triangle_numbers}
use Rattle.sheet.specs.Held.{SheetHeld}
use Rattle.sheet_turned.proofs.Fits.{fits_rings}
use Rattle.sheet_modes.specs.Modes.{read_by}
use Rattle.sheet_modes.proofs.Modes.{by_fits}
use Rattle.demands.proofs.Stages.{read_limits}
use Rattle.demands.proofs.Carried.{carried}

-- ---- one product at each corner
-- For a closed ring the sum with one product at each corner is the sum over edges that defines its double area,
pub ring_by_corners : (r : Ring) → RingLimits r → ring_area r ≡ corner_sum r
ring_by_corners r h = sym (corner_sum_lem r h.closed)

part_by_corners : (p : Polygon) → All RingLimits p → sum cross (flat_map edges p) ≡ sum corner_sum p
unfolding flat_map ring_area
part_by_corners [] h = refl
part_by_corners (r ∷ p) h = sum-++ cross (edges r) (flat_map edges p) ∙ ap₂ ◌+ℤ◌ (ring_by_corners r h.0) (part_by_corners p h.1)

-- and a polygon's double area is that of all its rings.
pub polygon_by_corners : (m : Member) → All (All RingLimits) m → double_area m ≡ sum (sum corner_sum) m
unfolding flat_map double_area
polygon_by_corners [] h = refl
polygon_by_corners (p ∷ m) h = sum-++ cross (flat_map edges p) (member_edges m) ∙ ap₂ ◌+ℤ◌ (part_by_corners p h.0) (polygon_by_corners m h.1)

-- So it is for each polygon of a sheet that is read in any mode, in the older ones with its rings as turned.
pub by_corners : (mode : ℕ) (s : List ℕ) → All (λ b. b < 256) s → (n : Sheet) → read_by members mode s ≡ value n → All (λ m. double_area m ≡ sum (sum corner_sum) m) n.polygons
by_corners mode s all n e =
    all_map (All (All RingLimits)) (λ m. double_area m ≡ sum (sum corner_sum) m) polygon_by_corners n.polygons (fits_rings members n (by_fits members s (omega arith) all mode n e))

-- ---- for a polygon that a set of triangles carries it is the sum of their double areas: demand 3
pub of_triangles : (table : List Triangle) → RuleA table → RuleB table → (m : Member) (s : List Bool) → judge table m ≡ carried_by s → double_area m ≡ sum double (chosen table s)
of_triangles table area once m s e = sym ((carried table area once m).3 s e).area

-- ---- no double area within the limits is too large for its 8 bytes
-- What the coordinates of a sheet are small by.
abbrev Small : ℤ → Type 0
Small = Within 20_000_000

abbrev Bounded : List Edge → Type 0
Bounded l = Within (800_000_000_000_000 * length l) (sum cross l)

-- The shares of edges, one list behind another.
bounded_more : (k l : List Edge) → Bounded k → Bounded l → (m : List Edge) → length m ≡ length k + length l → sum cross m ≡ sum cross k +ℤ sum cross l → Bounded m
bounded_more k l h i m n e =
    let w = within_add (800_000_000_000_000 * length k) (800_000_000_000_000 * length l) (sum cross k) (sum cross l) h i in
    record { size = omega (arith, rw (← e) at w.size) }

ring_bounded : (r : Ring) → All Small (flat_map point_numbers r) → Bounded (edges r)
unfolding flat_map cross
ring_bounded [] h = record { size = omega arith }
ring_bounded (p ∷ []) h = record { size = omega arith }
ring_bounded (p ∷ q ∷ l) h =
    let px = h.0 in
    let py = h.1.0 in
    let qx = h.1.1.0 in
    let qy = h.1.1.1.0 in
    let c = within_sub 400_000_000_000_000 400_000_000_000_000 _ _ (within_mul 20_000_000 20_000_000 _ _ px qy) (within_mul 20_000_000 20_000_000 _ _ qx py) in
    let w = within_add 800_000_000_000_000 (800_000_000_000_000 * length (edges (q ∷ l))) _ _ c (ring_bounded (q ∷ l) h.1.1) in
    record { size = omega (arith, w.size) }

all_bounded : {A : Type 0} (f : A → List ℤ) (e : A → List Edge) → ((a : A) → All Small (f a) → Bounded (e a)) → (l : List A) → All Small (flat_map f l) → Bounded (flat_map e l)
unfolding flat_map
all_bounded f e each [] h = record { size = omega arith }
all_bounded f e each (a ∷ l) h =
    bounded_more (e a) (flat_map e l) (each a (all_left Small (f a) (flat_map f l) h)) (all_bounded f e each l (all_right Small (f a) (flat_map f l) h)) (flat_map e (a ∷ l))
    (length-append (e a) (flat_map e l)) (sum-++ cross (e a) (flat_map e l))

-- A polygon's, and those of a sheet as the code holds it.
polygon_bounded : (m : Member) → All Small (member_numbers m) → Bounded (member_edges m)
polygon_bounded m h = all_bounded part_numbers (flat_map edges) (λ p k. all_bounded ring_numbers edges (λ r i. ring_bounded r i.1) p k.1) m h.1

each_bounded : (l : List Member) → All Small (flat_map member_numbers l) → All (λ m. Bounded (member_edges m)) l
unfolding flat_map
each_bounded [] h = tt
each_bounded (m ∷ l) h = (polygon_bounded m (all_left Small (member_numbers m) (flat_map member_numbers l) h), each_bounded l (all_right Small (member_numbers m) (flat_map member_numbers l) h))

held_small : (l : List ℕ) → All Held l → All Small (map millimetres l)
held_small [] h = tt
held_small (a ∷ l) h = (within_gap 20_000_000 10_000_000 a (omega arith) h.0, held_small l h.1)

few_fit : (l : List Member) → All (λ m. Bounded (member_edges m)) l → All (λ m. length (member_edges m) ≤ 4096) l → All (λ m. to_z w64 (of_z w64 (double_area m)) ≡ double_area m) l
unfolding double_area
few_fit [] h k = tt
few_fit (m ∷ l) h k = (exact (800_000_000_000_000 * length (member_edges m)) (double_area m) (omega (arith, k.0)) h.0, few_fit l h.1 k.1)

sheet_told : (limit : ℕ) (n : Sheet) (l : List ℕ) → SheetHeld limit n l → All (λ m. to_z w64 (of_z w64 (double_area m)) ≡ double_area m) n.polygons
sheet_told limit n l h =
    let small = subst (All Small) h.is (held_small l h.held) in
    few_fit n.polygons (each_bounded n.polygons (all_right Small (counted triangle_numbers n.table) (counted member_numbers n.polygons) small).1) h.few_edges

-- Each double area is told by its 64 bits, which the 8 bytes are: none is written modulo 2^64.
pub areas_told : (mode : ℕ) (s : List ℕ) → All (λ b. b < 256) s → (n : Sheet) → read_by members mode s ≡ value n → All (λ m. to_z w64 (of_z w64 (double_area m)) ≡ double_area m) n.polygons
areas_told mode s all n e = sheet_told members n _ (read_limits mode s all n e)
