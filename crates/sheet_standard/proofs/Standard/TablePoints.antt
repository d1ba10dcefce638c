-- A point in the table: what it adds to the numbers, and what one turn of reading does to the lists of what is left there, both ways. A triangle stands among
-- the numbers without its closing point, and the number of members follows the last. Assumes nothing.
use mathlib.Core.Path.{◌≡◌, refl, sym}
use mathlib.Core.Bool.{Bool, true, false, ◌&&◌}
use mathlib.Core.List.{List, [], ◌∷◌, ◌++◌, map, flat_map, append_assoc, map-append}
use Prim.Native.Nat.{ℕ, zero, suc, ◌+◌, ◌-◌, ◌≤◌, ◌<◌}
use native.Mathlib.Omega.{arith}
use borrow.Author.Tests.{eq-eqb, ne_eqb, eqb-true}
use lib.Dec.{eqb}
use lib.IntN.{ℤ, pos}
use lib.ListN.{length}
use Rattle.plane.specs.Corners.{millimetres}
use Rattle.wkb.specs.declared.Cursor.{Cursor}
use Rattle.wkb.specs.Standard.{Pair, Geometries, none, ◌then◌, count, encode_all}
use Rattle.wkb.specs.Steps.{renewed, after_point}
use Rattle.wkb.proofs.Complete.{Complete, not_complete}
use Rattle.sheet.specs.Reading.{Taken, held, push, noted, last_of_table, pointing}
use Rattle.sheet.specs.Going.{reading}
use Rattle.sheet.proofs.Rows.{renewed_stays}
use Rattle.lent_fields.proofs.Fields.{Bytes}
use Rattle.sheet_standard.proofs.Standard.Steps.{PointRead, point_back}
use Rattle.sheet_standard.proofs.Standard.Left.{Ends, millimetres_count, no_polygon}
use Rattle.sheet_standard.proofs.Standard.Points.{passed, with_point, PointPassed, point_passed, point_before}
use Rattle.sheet_standard.proofs.Standard.Table.{InTable, TableStands, Unfinished, still_in, members_outcome, table_outcome, TableFound, TableThrough, TableBack, after_through, after_back}

and_false : (t : Bool) → (t && false) ≡ false
and_false true = refl
and_false false = refl

last_false : (c : Cursor) → (c.parts ≡ 0 → c.rings ≡ 0 → c.points ≡ 1 → ⊥) → last_of_table c ≡ false
last_false c h = go (eqb c.member 1) (eqb c.parts 0) (eqb c.rings 0) (eqb c.points 1) refl refl refl
  where
    go : (m p q r : Bool) → eqb c.parts 0 ≡ p → eqb c.rings 0 ≡ q → eqb c.points 1 ≡ r → (m && p && q && r) ≡ false
    go false p q r ep eq er = refl
    go true false q r ep eq er = refl
    go true true false r ep eq er = refl
    go true true true false ep eq er = refl
    go true true true true ep eq er = absurd (h (eqb-true c.parts 0 ep) (eqb-true c.rings 0 eq) (eqb-true c.points 1 er))

-- What a point adds in the table: itself, if it is not the last of its ring; nothing, if it is, and more comes; the number of members at the end.
pointing_more : (c : Cursor) (x y : ℕ) (b : Taken) → (c.points ≡ 1 → ⊥) → pointing c x y b ≡ with_point x y b
unfolding pointing
pointing_more c x y b h = rw (last_false c (λ p r k. h k), ne_eqb c.points 1 h, and_false (eqb c.member 1)) refl

pointing_closing : (c : Cursor) (x y : ℕ) (b : Taken) → c.member ≡ 1 → c.points ≡ 1 → (c.parts ≡ 0 → c.rings ≡ 0 → ⊥) → pointing c x y b ≡ noted x y b
unfolding pointing
pointing_closing c x y b m k h = rw (last_false c (λ p r k. h p r), eq-eqb c.member 1 m, eq-eqb c.points 1 k) refl

pointing_last : (c : Cursor) (x y : ℕ) (b : Taken) → c.member ≡ 1 → c.points ≡ 1 → c.parts ≡ 0 → c.rings ≡ 0 → pointing c x y b ≡ push (held c.members) (noted x y b)
unfolding pointing
pointing_last c x y b m k p r = rw (eq-eqb c.member 1 m, eq-eqb c.points 1 k, eq-eqb c.parts 0 p, eq-eqb c.rings 0 r) refl

-- Where more of the table comes, the place stays in it.
passed_stays : (c : Cursor) → Unfinished (passed c) → renewed (passed c) ≡ passed c
passed_stays c h = renewed_stays (passed c) (not_complete (passed c) (λ k. let p = k.no_points in let r = k.no_rings in let q = k.no_parts in omega arith))

pushed_point : (l : List ℕ) (x y : ℕ) (rest : List ℤ) → map millimetres ((l ++ x ∷ []) ++ y ∷ []) ++ rest ≡ map millimetres l ++ (millimetres x ∷ millimetres y ∷ rest)
pushed_point l x y rest =
    rw (map-append millimetres (l ++ x ∷ []) (y ∷ []), map-append millimetres l (x ∷ []), append_assoc (map millimetres l ++ millimetres x ∷ []) (millimetres y ∷ []) rest)
    (append_assoc (map millimetres l) (millimetres x ∷ []) (millimetres y ∷ rest))

module _ (s : List ℕ) (c : Cursor) (b : Taken) (t : InTable s c) where
  passed_in : c.at + 16 ≤ length s → InTable s (passed c)
  passed_in h = still_in 16 (c.points - 1) c.rings c.parts c.little t h

  -- With this point the table ends.
  table_ends : c.points - 1 ≡ 0 → c.rings ≡ 0 → c.parts ≡ 0 → Complete (passed c)
  table_ends p r q = record { no_header = t.no_header; no_second = t.no_second; no_third = t.no_third; no_fourth = t.no_fourth; no_parts = q; no_rings = r; no_points = p }

  module _ (later : TableThrough s c) (p : Pair) where
    -- More of the table comes after the point.
    point_on : (ps : List Pair) (rs : List (List Pair)) (gs ms : Geometries) (k : PointPassed 4 s c b p ps rs (encode_all gs ++ encode_all ms)) → TableStands s c b (p ∷ ps) rs gs ms → Unfinished (passed c)
        → Ends (reading s (renewed (passed c)) (pointing c k.x k.y b)) (table_outcome b (p ∷ ps) rs gs ms)
    unfolding flat_map table_outcome
    point_on ps rs gs ms k h o =
        rw (passed_stays c o, ← numbers ps k.polygon.points_number h.polygon.points_number)
        (later (passed c) (pointing c k.x k.y b) ps rs gs ms (omega arith) (passed_in k.fits) o (record { polygon = k.polygon; below = h.below }))
      where
        numbers : (ps : List Pair) → length ps ≡ c.points - 1 → suc (length ps) ≡ c.points → table_outcome (pointing c k.x k.y b) ps rs gs ms ≡ table_outcome b (p ∷ ps) rs gs ms
        numbers (p' ∷ ps) n m = rw (pointing_more c k.x k.y b (λ z. absurd (omega arith)), k.x_is, k.y_is) (pushed_point b.numbers k.x k.y _)
        numbers [] n m = rw (pointing_closing c k.x k.y b t.member (sym m) (λ z z'. absurd (omega arith))) refl

    point_cases : (ps : List Pair) (rs : List (List Pair)) (gs ms : Geometries) (k : PointPassed 4 s c b p ps rs (encode_all gs ++ encode_all ms)) → TableStands s c b (p ∷ ps) rs gs ms
        → Ends (reading s (renewed (passed c)) (pointing c k.x k.y b)) (table_outcome b (p ∷ ps) rs gs ms)
    unfolding flat_map table_outcome encode_all
    point_cases (p' ∷ ps) rs gs ms k h = let n = k.polygon.points_number in point_on (p' ∷ ps) rs gs ms k h (omega arith)
    point_cases [] (r ∷ rs) gs ms k h = let n = k.polygon.rings_number in point_on [] (r ∷ rs) gs ms k h (omega arith)
    point_cases [] [] (g then gs) ms k h = let n = h.below.pieces_are.0 in point_on [] [] (g then gs) ms k h (omega arith)
    point_cases [] [] none ms k h =
        let z = table_ends (sym k.polygon.points_number) (sym k.polygon.rings_number) (sym h.below.pieces_are.0) in
        let numbers : map millimetres (pointing c k.x k.y b).numbers ++ members_outcome ms ≡ map millimetres b.numbers ++ (pos (count ms) ∷ members_outcome ms) =
        rw (pointing_last c k.x k.y b t.member (sym h.polygon.points_number) z.no_parts z.no_rings, map-append millimetres b.numbers (held c.members ∷ []), millimetres_count c.members, ← h.below.members_are.0)
        (append_assoc (map millimetres b.numbers) (pos (count ms) ∷ []) (members_outcome ms)) in
        rw (← numbers) (after_through s (passed c) (pointing c k.x k.y b) (passed_in k.fits) z ms k.polygon.bytes h.below)

  pub table_point_through : TableThrough s c → (p : Pair) (ps : List Pair) (rs : List (List Pair)) (gs ms : Geometries) → TableStands s c b (p ∷ ps) rs gs ms → Ends (reading s c b) (table_outcome b (p ∷ ps) rs gs ms)
  table_point_through later p ps rs gs ms h = let k = point_passed c t.within h.polygon in rw k.goes (point_cases later p ps rs gs ms k h)

  pub table_point_return : Bytes s → TableBack s c → 0 < c.points → (reading s c b).code ≡ 0 → TableFound s c b
  unfolding after_point flat_map encode_all
  table_point_return bytes later some code = let k = point_back s c b bytes some code in go k ((c.points - 1) + (c.rings + c.parts)) refl k.on_with
    where
      go : (k : PointRead s c b) (n : ℕ) → (c.points - 1) + (c.rings + c.parts) ≡ n → (reading s (after_point c) (pointing c k.x k.y b)).code ≡ 0 → TableFound s c b
      go k (suc n) e code =
          let v = later (passed c) (pointing c k.x k.y b) (omega arith) (passed_in k.fits) (omega arith) (rw (passed_stays c (omega arith)) at code) in
          (k.p ∷ v.0, v.1, v.2, v.3, record { polygon = point_before c k some v.4.polygon; below = v.4.below })
      go k zero e code =
          let z = table_ends (omega arith) (omega arith) (omega arith) in
          let v = after_back s (passed c) (pointing c k.x k.y b) (passed_in k.fits) z bytes code in
          (k.p ∷ [], [], none, v.0, record { polygon = point_before c k some (no_polygon z.no_points z.no_rings v.1); below = v.2 })
