-- What is left to read at a place in the table, and the place after its last point, where the members of the sheet begin. Assumes nothing.
use mathlib.Core.Path.{◌≡◌, refl, sym, ◌∙◌, ap}
use mathlib.Core.Bool.{Bool, true, false, cond, ◌&&◌, true≢false}
use mathlib.Core.List.{List, [], ◌∷◌, ◌++◌, map, flat_map, append-nil}
use Prim.Native.Nat.{ℕ, zero, suc, ◌+◌, ◌-◌, ◌≤◌, ◌<◌}
use native.Mathlib.Omega.{arith}
use borrow.Author.Tests.{lt-ltb, le-ltb}
use lib.Dec.{ltb}
use lib.IntN.{ℤ, pos}
use lib.ListN.{length, drop, length-drop, drop_of_length-le}
use Rattle.plane.specs.Corners.{millimetres}
use Rattle.wkb.specs.declared.Cursor.{Cursor}
use Rattle.wkb.specs.Places.{moved, naming, header_to_come, parts_to_come, rings_to_come, ordered, points_to_come, polygons_begun}
use Rattle.wkb.specs.Standard.{Pair, Geometries, none, ◌then◌, count, encode_all}
use Rattle.wkb.specs.Steps.{complete, renewed}
use Rattle.wkb.proofs.Complete.{Complete, is_complete, complete_is}
use Rattle.sheet_form.specs.Numbers.{point_numbers, triangle_numbers, member_numbers}
use Rattle.sheet.specs.Reading.{Taken}
use Rattle.sheet.specs.Going.{reading}
use Rattle.sheet_standard.specs.Limits.{point_of, member_of, members_of, triangle_of, each, PieceFits, Each, all_lengths}
use Rattle.lent_fields.proofs.Fields.{Bytes}
use Rattle.sheet_standard.proofs.Standard.Steps.{cond_no, end_goes, end_back}
use Rattle.sheet_standard.proofs.Standard.Left.{left_bytes, left_open, only, Top, Group, OpenPolygon, Good, front, left_numbers, outcome, Ends, no_list, no_polygon}
use Rattle.sheet_standard.proofs.Standard.Levels.{second}
use Rattle.sheet_standard.proofs.Standard.Entered.{vacant}
use Rattle.sheet_standard.proofs.Standard.Induction.{below_only, members_through, members_back}

-- All but the last.
abbrev pub but_last : List Pair → List Pair
but_last [] = []
but_last (p ∷ []) = []
but_last (p ∷ q ∷ l) = p ∷ but_last (q ∷ l)

abbrev pub corners_of : List Pair → List ℤ
corners_of r = flat_map point_numbers (map point_of (but_last r))

-- A place in the table, with no more members after it than there may be.
pub record InTable (s : List ℕ) (c : Cursor) : Type 0 where
  pub within : c.at ≤ length s
  pub member : c.member ≡ 1
  pub no_header : c.header ≡ false
  pub no_second : c.second ≡ 0
  pub no_third : c.third ≡ 0
  pub no_fourth : c.fourth ≡ 0
  pub total : c.total ≤ 4096
  pub members : c.members < c.limit

-- So many pieces of the table and members of the sheet, within the limits with so many points counted before.
pub record TableBelow (pieces members total : ℕ) (gs ms : Geometries) : Type 0 where
  pub pieces_are : Group (Each PieceFits) pieces gs
  pub members_are : Group (Each Top) members ms
  pub total_fits : total + all_lengths (each member_of ms) ≤ 4096

-- Points, rings and pieces of the table and members of the sheet stand at the place, with its counts, their bytes and within the limits.
pub record TableStands (s : List ℕ) (c : Cursor) (b : Taken) (ps : List Pair) (rs : List (List Pair)) (gs ms : Geometries) : Type 0 where
  pub polygon : OpenPolygon 4 s c b ps rs (encode_all gs ++ encode_all ms)
  pub below : TableBelow c.parts c.members c.total gs ms

-- Something of the table is still to come.
abbrev pub Unfinished : Cursor → Type 0
Unfinished c = 0 < c.points + (c.rings + c.parts)

-- The place stays in the table where only points, rings and pieces of it are read.
pub still_in : {s : List ℕ} {c : Cursor} (k points rings parts : ℕ) (little : Bool) → InTable s c → c.at + k ≤ length s → InTable s (parts_to_come parts (rings_to_come rings (points_to_come points (ordered little (moved k c)))))
still_in k points rings parts little t h = record { within = h; member = t.member; no_header = t.no_header; no_second = t.no_second; no_third = t.no_third; no_fourth = t.no_fourth; total = t.total; members = t.members }

unfoldable pub members_outcome : Geometries → List ℤ
members_outcome ms = flat_map member_numbers (each member_of ms)

unfoldable pub table_outcome : Taken → List Pair → List (List Pair) → Geometries → Geometries → List ℤ
table_outcome b ps rs gs ms =
    map millimetres b.numbers ++ (corners_of ps ++ (flat_map corners_of rs ++ (flat_map triangle_numbers (each triangle_of gs) ++ (pos (count ms) ∷ members_outcome ms))))

-- ---- what the two inductions have from later places in the table
abbrev pub TableFound : List ℕ → Cursor → Taken → Type 0
TableFound s c b = (ps : List Pair) × (rs : List (List Pair)) × (gs : Geometries) × (ms : Geometries) × TableStands s c b ps rs gs ms

abbrev pub TableThrough : List ℕ → Cursor → Type 0
TableThrough s c = (d : Cursor) (b : Taken) (ps : List Pair) (rs : List (List Pair)) (gs ms : Geometries) → c.at < d.at → InTable s d → Unfinished d → TableStands s d b ps rs gs ms
    → Ends (reading s d b) (table_outcome b ps rs gs ms)

abbrev pub TableBack : List ℕ → Cursor → Type 0
TableBack s c = (d : Cursor) (b : Taken) → c.at < d.at → InTable s d → Unfinished d → (reading s d b).code ≡ 0 → TableFound s d b

-- ---- after the table
renewed_last : (c : Cursor) → c.members ≡ 0 → renewed c ≡ c
unfolding renewed
renewed_last c e = go (complete c) _
  where
    go : (t : Bool) (d : Cursor) → cond (t && ltb 0 c.members) d c ≡ c
    go true d = cond_no d c (le-ltb 0 c.members (omega arith))
    go false d = refl

-- The place of the first member.
abbrev first_member : Cursor → Cursor
first_member c = header_to_come true (polygons_begun 0 (naming 2 (c.members - 1) c))

renewed_first : (c : Cursor) → complete c ≡ true → c.member ≡ 1 → 0 < c.members → c.members < c.limit → renewed c ≡ first_member c
unfolding renewed
renewed_first c e m h l = rw (e, lt-ltb 0 c.members h, m, lt-ltb 1 c.limit (omega arith)) refl

module _ (s : List ℕ) (c : Cursor) (b : Taken) (t : InTable s c) (k : Complete c) where
  first_good : Good s (first_member c) b
  first_good = record {
    raw = record {
      within = t.within;
      member = omega arith;
      own = λ e. (k.no_points, k.no_rings, k.no_parts, k.no_fourth, k.no_third, k.no_second, refl);
      many = omega arith;
      total = t.total;
      marked = λ e. absurd (true≢false e);
    };
    going = λ e. absurd (true≢false (is_complete _ e).no_header);
  }

  pub after_through : (ms : Geometries) → drop c.at s ≡ encode_all ms → TableBelow c.parts c.members c.total none ms → Ends (reading s (renewed c) b) (map millimetres b.numbers ++ members_outcome ms)
  unfolding members_outcome flat_map encode_all outcome front left_numbers left_open members_of left_bytes
  after_through none e h =
      let at_end : c.at ≡ length s = omega (arith, t.within, length-drop c.at s, ap length e) in
      let member : 1 ≤ c.member = let m = t.member in omega arith in
      rw (renewed_last c (sym h.members_are.0), end_goes s c b k.no_points k.no_rings member (complete_is c k) at_end) (refl, sym (append-nil (map millimetres b.numbers)))
  after_through (g then ms) e h =
      let n = h.members_are.0 in
      rw (renewed_first c (complete_is c k) t.member (omega arith) t.members)
      (members_through (suc (length s)) s (first_member c) b [] [] (only (g then ms)) (omega arith) first_good (record {
        polygon = no_polygon k.no_points k.no_rings e;
        polygons_fit = omega arith;
        total_fits = let l = h.total_fits in omega arith;
        below = below_only c (g then ms) k (omega arith, h.members_are.1);
      }))

  pub after_back : Bytes s → (reading s (renewed c) b).code ≡ 0 → (ms : Geometries) × (drop c.at s ≡ encode_all ms) × TableBelow c.parts c.members c.total none ms
  unfolding flat_map encode_all left_open members_of left_bytes
  after_back bytes code = go c.members refl
    where
      go : (n : ℕ) → c.members ≡ n → (ms : Geometries) × (drop c.at s ≡ encode_all ms) × TableBelow c.parts c.members c.total none ms
      go zero n =
          let member : 1 ≤ c.member = let m = t.member in omega arith in
          let e = end_back s c b k.no_points k.no_rings member (complete_is c k) (rw (renewed_last c n) at code) in
          (none, drop_of_length-le s {i = c.at} (omega arith), record { pieces_are = (sym k.no_parts, tt); members_are = (sym n, tt); total_fits = let m = t.total in omega arith })
      go (suc m) n =
          let some : 0 < c.members = omega arith in
          let v = members_back (suc (length s)) s (first_member c) b (omega arith) bytes first_good (rw (renewed_first c (complete_is c k) t.member some t.members) at code) in
          let w = v.2 in
          let st = v.3 in
          let z = vacant second (first_member c) w (k.no_parts, k.no_fourth, k.no_third, k.no_second) st.below in
          let no_rings = no_list v.1 (st.polygon.rings_number ∙ k.no_rings) in (
            w.members,
            rw (no_list v.0 (st.polygon.points_number ∙ k.no_points), no_rings, z.0, z.1, z.2, z.3) at st.polygon.bytes,
            record {
              pieces_are = (sym k.no_parts, tt);
              members_are = (st.below.members_are.0 ∙ omega arith, st.below.members_are.1);
              total_fits = let m = rw (no_rings, z.0, z.1, z.2, z.3) at st.total_fits in omega arith;
            },
          )
