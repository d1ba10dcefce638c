-- A held sheet with its polygons left out: its table stands at the front as it was, and behind it that there are no polygons. Assumes nothing.
use mathlib.Core.Path.{◌≡◌, refl, sym, ◌∙◌, ap, ap₂, subst}
use mathlib.Core.List.{List, [], ◌∷◌, ◌++◌, map, flat_map}
use Prim.Native.Nat.{ℕ, zero, suc, ◌+◌, ◌*◌, ◌≤◌, ◌<◌}
use native.Mathlib.Omega.{arith}
use lib.ListN.{length, take, set}
use lib.Seq.{take_at}
use Rattle.whole.specs.Sums.{All}
use Rattle.whole.proofs.Sums.{all-++, all_take, map-++}
use Rattle.plane.specs.Corners.{millimetres}
use Rattle.plane.specs.Keys.{Held}
use Rattle.sheet_form.specs.Numbers.{Sheet, members, triangle_numbers, member_numbers, counted}
use Rattle.sheet.specs.Held.{SheetHeld}
use Rattle.judged_sets.proofs.Standing.{polygons_stand}
use Rattle.judged_sets.proofs.Following.{polygons_count}
use Rattle.listing.proofs.Front.{map_take, six_each}

-- The sheet without its polygons.
abbrev pub bare : Sheet → Sheet
bare n = record { table = n.table; polygons = [] }

-- A number laid down behind the first k.
front_and : (l : List ℕ) (k x : ℕ) → k < length l → take (suc k) (set l k x) ≡ take k l ++ x ∷ []
front_and [] k x h = absurd (omega arith)
front_and (a ∷ l) zero x h = refl
front_and (a ∷ l) (suc k) x h = ap (λ m. a ∷ m) (front_and l k x (omega arith))

module _ (n : Sheet) (l : List ℕ) (h : SheetHeld members n l) where
  abbrev at : ℕ
  at = 1 + 6 * length n.table

  -- The number of polygons stands behind the table.
  pub there : 1 + 6 * length n.table < length l
  there = (polygons_count (polygons_stand n l (length n.table) h refl)).0

  table_is : map millimetres (take at l) ≡ counted triangle_numbers n.table
  table_is =
      map_take millimetres at l ∙ ap (take at) h.is
      ∙ take_at (counted triangle_numbers n.table) (counted member_numbers n.polygons) at (omega (arith, six_each n.table))

  front : take (2 + 6 * length n.table) (set l (1 + 6 * length n.table) 10000000) ≡ take at l ++ 10000000 ∷ []
  front = let e : 2 + 6 * length n.table ≡ suc at = omega arith in ap (λ k. take k (set l at 10000000)) e ∙ front_and l at 10000000 there

  pub bare_held : SheetHeld members (bare n) (take (2 + 6 * length n.table) (set l (1 + 6 * length n.table) 10000000))
  unfolding flat_map
  bare_held = subst (SheetHeld members (bare n)) (sym front) (record {
    is = map-++ millimetres (take at l) (10000000 ∷ []) ∙ ap (λ m. m ++ millimetres 10000000 ∷ []) table_is;
    held = all-++ Held (take at l) (10000000 ∷ []) (all_take Held at l h.held) (omega arith, tt);
    some = h.some;
    few = h.few;
    few_polygons = omega arith;
    few_edges = tt;
  })
