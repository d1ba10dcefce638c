-- The table of a judged sheet stands at the front of its numbers, in range, and with nothing behind it. Assumes nothing.
use mathlib.Core.Path.{◌≡◌, refl, sym, ◌∙◌, ap, subst}
use mathlib.Core.List.{List, [], ◌∷◌, map, flat_map, append-nil}
use Prim.Native.Nat.{ℕ, zero, suc, ◌+◌, ◌*◌, ◌≤◌}
use native.Mathlib.Omega.{arith}
use lib.ListN.{length, take, length-take, length-append}
use lib.Seq.{take-take, take_at}
use Rattle.whole.specs.Sums.{All}
use Rattle.whole.proofs.Sums.{all_take}
use Rattle.plane.specs.Points.{Triangle}
use Rattle.plane.specs.Corners.{millimetres}
use Rattle.plane.specs.Keys.{Held}
use Rattle.sheet_form.specs.Numbers.{triangle_numbers, member_numbers, counted}
use Rattle.sheet_edges.specs.Standing.{NumbersAt}
use Rattle.sheet_edges.proofs.Triangles.{table_room}
use Rattle.judged.specs.Judged.{Judged}
use Rattle.judged.specs.Held.{JudgedHeld}

pub map_take : {A B : Type 0} (f : A → B) (k : ℕ) (l : List A) → map f (take k l) ≡ take k (map f l)
map_take f zero l = refl
map_take f (suc k) [] = refl
map_take f (suc k) (a ∷ l) = ap (λ m. f a ∷ m) (map_take f k l)

pub six_each : (table : List Triangle) → length (flat_map triangle_numbers table) ≡ 6 * length table
unfolding flat_map
six_each [] = omega arith
six_each (t ∷ table) = omega (arith, length-append (triangle_numbers t) (flat_map triangle_numbers table), six_each table)

module _ {j : Judged} {numbers opposite sets : List ℕ} (w : JudgedHeld j numbers opposite sets) {t : ℕ} (many : length j.sheet.table ≡ t) where
  room_held : 1 + 6 * t ≤ length (take w.size numbers)
  room_held = omega (arith, many, table_room (take w.size numbers) j.sheet.table (counted member_numbers j.sheet.polygons) w.held.is)

  pub table_fits : 1 + 6 * t ≤ length numbers
  table_fits = omega (arith, room_held, length-take w.size numbers)

  front : take (1 + 6 * t) (take w.size numbers) ≡ take (1 + 6 * t) numbers
  front = take-take (1 + 6 * t) w.size numbers (omega (arith, room_held, length-take w.size numbers))

  pub table_held : All Held (take (1 + 6 * t) numbers)
  table_held = subst (All Held) front (all_take Held (1 + 6 * t) (take w.size numbers) w.held.held)

  pub table_front : NumbersAt (counted triangle_numbers) (take (1 + 6 * t) numbers) 0 j.sheet.table []
  table_front =
      ap (map millimetres) (sym front)
      ∙ map_take millimetres (1 + 6 * t) (take w.size numbers)
      ∙ ap (take (1 + 6 * t)) w.held.is
      ∙ take_at (counted triangle_numbers j.sheet.table) (counted member_numbers j.sheet.polygons) (1 + 6 * t) (omega (arith, six_each j.sheet.table, many))
      ∙ sym (append-nil (counted triangle_numbers j.sheet.table))
