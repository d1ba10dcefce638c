-- Where the coordinates of a table's corners stand among numbers. The idea: the numbers form begins with the triangle count and the coordinates of the
-- corners. Assumes nothing.
use mathlib.Core.Path.{◌≡◌, refl, ◌∙◌, ap}
use mathlib.Core.List.{List, [], ◌∷◌, ◌++◌, flat_map, map}
use Prim.Native.Nat.{ℕ, zero, suc, ◌+◌, ◌*◌, ◌≤◌, ◌<◌}
use native.Mathlib.Omega.{arith}
use lib.IntN.{ℤ, pos}
use lib.ListN.{length, get_or, length-map}
use Rattle.whole.proofs.Sums.{all_at}
use Rattle.plane.specs.Points.{Point, Triangle}
use Rattle.plane.specs.Corners.{millimetres}
use Rattle.plane.specs.Keys.{point, Held, InRange}
use Rattle.table.specs.Table.{corners}
use Rattle.sheet_form.specs.Numbers.{Sheet, point_numbers, triangle_numbers, member_numbers, counted}
use Rattle.sheet.specs.Held.{SheetHeld}
use Rattle.sheet_edges.specs.Standing.{corner_at}
use Rattle.sheet_edges.proofs.Walk.{count_first}
use Rattle.sheet_written.specs.Fits.{origin}

-- ---- the numbers of a table
-- The triangles' numbers are those of the corners, of which there are three for each triangle.
pub corner_numbers : (table : List Triangle) → flat_map triangle_numbers table ≡ flat_map point_numbers (corners table)
unfolding flat_map
corner_numbers [] = refl
corner_numbers (t ∷ l) = ap (λ r. t.a.x ∷ t.a.y ∷ t.b.x ∷ t.b.y ∷ t.c.x ∷ t.c.y ∷ r) (corner_numbers l)

pub corner_count : (table : List Triangle) → length (corners table) ≡ 3 * length table
unfolding flat_map
corner_count [] = refl
corner_count (t ∷ l) = omega (arith, corner_count l)

-- Where the coordinates of a point stand.
pub record Stands (l : List Point) (r : List ℤ) (i : ℕ) : Type 0 where
  pub x : get_or (flat_map point_numbers l ++ r) (2 * i) (pos 0) ≡ (get_or l i origin).x
  pub y : get_or (flat_map point_numbers l ++ r) (2 * i + 1) (pos 0) ≡ (get_or l i origin).y
  pub there : 2 * i + 2 ≤ length (flat_map point_numbers l ++ r)

pub stands : (l : List Point) (r : List ℤ) (i : ℕ) → i < length l → Stands l r i
unfolding flat_map
stands [] r i h = absurd (omega arith)
stands (p ∷ l) r zero h = record { x = refl; y = refl; there = omega arith }
stands (p ∷ l) r (suc i) h =
    let s = stands l r i (omega arith) in
    let m = flat_map point_numbers (p ∷ l) ++ r in
    let e : 2 * suc i ≡ suc (suc (2 * i)) = omega arith in
    let f : 2 * suc i + 1 ≡ suc (suc (2 * i + 1)) = omega arith in
    record { x = ap (λ k. get_or m k (pos 0)) e ∙ s.x; y = ap (λ k. get_or m k (pos 0)) f ∙ s.y; there = omega (arith, s.there) }

-- ---- the sheet as it is held
at_map : (l : List ℕ) (k : ℕ) → k < length l → millimetres (get_or l k 0) ≡ get_or (map millimetres l) k (pos 0)
at_map [] k h = absurd (omega arith)
at_map (a ∷ l) zero h = refl
at_map (a ∷ l) (suc k) h = at_map l k (omega arith)

module _ {limit : ℕ} (n : Sheet) (numbers : List ℕ) (held : SheetHeld limit n numbers) where
  abbrev rest : List ℤ
  rest = counted member_numbers n.polygons

  form : map millimetres numbers ≡ pos (length n.table) ∷ flat_map point_numbers (corners n.table) ++ rest
  form = held.is ∙ ap (λ l. pos (length n.table) ∷ l ++ rest) (corner_numbers n.table)

  -- The triangle count stands first.
  pub counts : (0 < length numbers) × (get_or numbers 0 0 ≡ length n.table + 10_000_000)
  counts = let w = count_first triangle_numbers numbers 0 n.table rest held.is in (w.0, w.1)

  -- Then the corners, in range.
  module _ (i : ℕ) (h : i < 3 * length n.table) where
    corner_stands : Stands (corners n.table) rest i
    corner_stands = stands (corners n.table) rest i (omega (arith, corner_count n.table))

    pub long : 2 * i + 3 ≤ length numbers
    long = omega (arith, ap length form, corner_stands.there, length-map numbers millimetres)

    pub corner_in : InRange (corner_at numbers (2 * i + 1))
    corner_in = record { x = all_at Held 0 numbers (2 * i + 1) held.held (omega (arith, long)); y = all_at Held 0 numbers (2 * i + 1 + 1) held.held (omega (arith, long)) }

    at_place : (k j : ℕ) → k ≡ suc j → k < length numbers → millimetres (get_or numbers k 0) ≡ get_or (flat_map point_numbers (corners n.table) ++ rest) j (pos 0)
    at_place k j e l = at_map numbers k l ∙ ap (λ m. get_or (map millimetres numbers) m (pos 0)) e ∙ ap (λ m. get_or m (suc j) (pos 0)) form

    pub corner_is : point (corner_at numbers (2 * i + 1)) ≡ get_or (corners n.table) i origin
    corner_is =
        let x = at_place (2 * i + 1) (2 * i) (omega arith) (omega (arith, long)) ∙ corner_stands.x in
        let y = at_place (2 * i + 1 + 1) (2 * i + 1) (omega arith) (omega (arith, long)) ∙ corner_stands.y in
        λ j. record { x = x j; y = y j }
