-- Where the table and the polygons of a held sheet stand. Assumes nothing.
use mathlib.Core.Path.{◌≡◌, sym, ◌∙◌, ap}
use mathlib.Core.List.{List, [], map, append-nil}
use Prim.Native.Nat.{ℕ, ◌+◌, ◌*◌, ◌<◌}
use native.Mathlib.Omega.{arith}
use lib.ListN.{length, get_or, drop}
use Rattle.plane.specs.Corners.{millimetres}
use Rattle.sheet_form.specs.Numbers.{Sheet, members, triangle_numbers, counted, member_numbers}
use Rattle.sheet.specs.Held.{SheetHeld}
use Rattle.sheet_edges.specs.Standing.{NumbersAt}
use Rattle.sheet_edges.proofs.Triangles.{table_behind, table_room}
use Rattle.judged_sets.specs.Owning.{PolygonsAt}

module _ (n : Sheet) (numbers : List ℕ) where
  pub table_stands : SheetHeld members n numbers → NumbersAt (counted triangle_numbers) numbers 0 n.table (counted member_numbers n.polygons)
  table_stands h = h.is

  pub first_count : SheetHeld members n numbers → (0 < length numbers) × (get_or numbers 0 0 ≡ length n.table + 10_000_000)
  first_count h =
      (omega (arith, table_room numbers n.table (counted member_numbers n.polygons) (table_stands h)), (table_behind numbers n.table (counted member_numbers n.polygons) (table_stands h)).0)

  pub polygons_stand : (t : ℕ) → SheetHeld members n numbers → length n.table ≡ t → PolygonsAt numbers (1 + 6 * t) n.polygons []
  polygons_stand t h e = record {
    stand = ap (λ t. map millimetres (drop (1 + 6 * t) numbers)) (sym e) ∙ (table_behind numbers n.table (counted member_numbers n.polygons) (table_stands h)).1 ∙ sym (append-nil (counted member_numbers n.polygons));
    many = omega (arith, h.few_polygons);
    few = h.few_edges;
  }
