-- A whole sheet among held numbers: its table stands at the front, its polygons behind it, and with these turned it is the sheet with its rings turned.
-- Assumes nothing.
use mathlib.Core.Path.{◌≡◌, refl, sym, ◌∙◌, ap, ap₂}
use mathlib.Core.List.{List, [], ◌∷◌, ◌++◌, map, flat_map, append-nil}
use Prim.Native.Nat.{ℕ, ◌+◌, ◌-◌, ◌*◌, ◌≤◌, ◌<◌}
use native.Mathlib.Omega.{arith}
use lib.ListN.{length, get_or, length-map}
use Rattle.whole.specs.Sums.{All}
use Rattle.whole.proofs.Sums.{all_map, all_image}
use Rattle.plane.specs.Points.{Triangle}
use Rattle.plane.specs.Members.{member_edges}
use Rattle.plane_rings.specs.Closed.{RingLimits}
use Rattle.plane.specs.Corners.{millimetres}
use Rattle.plane.proofs.Keys.{millimetres_same}
use Rattle.plane_rings.specs.Turning.{turn_member}
use Rattle.plane_rings.proofs.Turning.{member_edges_lem}
use Rattle.sheet_form.specs.Numbers.{Sheet, triangle_numbers, member_numbers, counted}
use Rattle.sheet.specs.Held.{SheetHeld}
use Rattle.sheet_turned.specs.Rings.{RingsFit}
use Rattle.sheet_turned.specs.Turned.{turned}
use Rattle.sheet_older.specs.Standing.{Stands, Place, Turns}
use Rattle.sheet_older.proofs.Places.{stands_count}

pub triangles_length : (l : List Triangle) → length (flat_map triangle_numbers l) ≡ 6 * length l
unfolding flat_map
triangles_length [] = refl
triangles_length (t ∷ l) = omega (arith, triangles_length l)

-- The place of the polygons' count.
abbrev pub polygons_at : List ℕ → ℕ
polygons_at numbers = 1 + 6 * (get_or numbers 0 0 - 10_000_000)

module _ {limit : ℕ} {n : Sheet} {numbers : List ℕ} (h : SheetHeld limit n numbers) where
  -- The count of the table's pieces.
  pub sheet_count : (0 < length numbers) × (get_or numbers 0 0 ≡ length n.table + 10_000_000)
  sheet_count = stands_count triangle_numbers {numbers = numbers} {front = []} n.table (counted member_numbers n.polygons) (record { is = h.is; place = refl })

  sheet_stands : Stands numbers (polygons_at numbers) (counted triangle_numbers n.table) (counted member_numbers n.polygons ++ [])
  sheet_stands =
      record {
        is = h.is ∙ ap (λ l. counted triangle_numbers n.table ++ l) (sym (append-nil (counted member_numbers n.polygons)));
        place = omega (arith, triangles_length n.table, sheet_count.1);
      }

  pub sheet_place : RingsFit n → Place (counted member_numbers) (All (All (All RingLimits))) numbers (polygons_at numbers)
  sheet_place fits =
      record { held = h.held; front = counted triangle_numbers n.table; thing = n.polygons; rest = []; fits = fits; stands = sheet_stands }

  pub sheet_turned : {numbers' : List ℕ} {next : ℕ} → RingsFit n → Turns (counted member_numbers) (map turn_member) (All (All (All RingLimits))) numbers (polygons_at numbers) numbers' next
      → SheetHeld limit (turned n) numbers'
  sheet_turned fits w =
      let s = w.reads (counted triangle_numbers n.table) n.polygons [] fits sheet_stands in
      record {
        is = s.is ∙ append-nil (counted triangle_numbers n.table ++ counted member_numbers (map turn_member n.polygons));
        held = w.held;
        some = h.some;
        few = h.few;
        few_polygons = omega (arith, h.few_polygons, length-map n.polygons turn_member);
        few_edges = all_image turn_member (λ m. length (member_edges m) ≤ 4096) n.polygons
            (all_map (λ m. length (member_edges m) ≤ 4096) (λ m. length (member_edges (turn_member m)) ≤ 4096) (λ m k. omega (arith, member_edges_lem m)) n.polygons h.few_edges);
      }

-- ---- one outcome
pub same_held : (a b : List ℕ) → map millimetres a ≡ map millimetres b → a ≡ b
same_held [] [] e = refl
same_held [] (v ∷ b) e = absurd (let z = ap length e in omega arith)
same_held (u ∷ a) [] e = absurd (let z = ap length e in omega arith)
same_held (u ∷ a) (v ∷ b) e = ap₂ {C = List ℕ} ◌∷◌ (millimetres_same u v (cc)) (same_held a b (cc))

-- Two outcomes that the contract of `turn` allows are equal: the sheet tells the numbers.
pub one_outcome : {limit : ℕ} (n : Sheet) {numbers numbers' : List ℕ} → SheetHeld limit (turned n) numbers → SheetHeld limit (turned n) numbers' → numbers ≡ numbers'
one_outcome n {numbers} {numbers'} h k = same_held numbers numbers' (h.is ∙ sym k.is)
