-- Opening a pending Polygon: its rings become the rings left of the open polygon, both ways. Its member counts one polygon more, and the
-- count that stands among the numbers is set anew. Assumes nothing.
use mathlib.Core.Path.{◌≡◌, refl, sym, ◌∙◌, ap}
use mathlib.Core.Bool.{Bool, true, false, true≢false}
use mathlib.Core.List.{List, [], ◌∷◌, ◌++◌, map, flat_map, append_assoc}
use Prim.Native.Nat.{ℕ, suc, ◌+◌, ◌≤◌, ◌<◌}
use native.Mathlib.Omega.{arith}
use borrow.Author.Tests.{lt-ltb}
use lib.ListN.{length, drop, set, length-map, length-set}
use lib.Seq.{set-set, get_or-set_same}
use Rattle.wkb.specs.declared.Cursor.{Cursor}
use Rattle.wkb.specs.Places.{moved, rings_to_come, ordered, polygons_begun}
use Rattle.wkb_kinds.specs.declared.Kind.TheVariants.{Polygon}
use Rattle.wkb.specs.Standard.{Pair, ringed, encode_ring, encode}
use Rattle.wkb.specs.Steps.{with_rings}
use Rattle.wkb.proofs.Complete.{is_complete}
use Rattle.sheet_form.specs.Numbers.{ring_numbers, part_numbers, member_numbers}
use Rattle.sheet.specs.Reading.{Taken, held, push, tally}
use Rattle.sheet_standard.specs.Limits.{ring_of, member_of, each, PolygonFits}
use Rattle.sheet_standard.proofs.Standard.Fields.{heading, heading_is}
use Rattle.sheet_standard.proofs.Standard.Left.{Left, left_bytes, left_open, Stands, Raw, Good, front, left_numbers, outcome, millimetres_count, pushed, still_marked, no_ring}
use Rattle.sheet_standard.proofs.Standard.Pending.{Pending, pending_outcome}

-- The place after a polygon's header, and what was taken then.
abbrev pub rings_at : ℕ → Bool → Cursor → Cursor
rings_at n little d = rings_to_come n (ordered little (polygons_begun (d.polygons + 1) (moved 9 d)))

pub rings_at_lem : (n : ℕ) (little : Bool) (d : Cursor) → d.polygons < 64 → with_rings true n little d ≡ rings_at n little d
unfolding with_rings
rings_at_lem n little d h = rw (lt-ltb d.polygons 64 h) refl

abbrev pub with_polygon : ℕ → Cursor → Taken → Taken
with_polygon n d b = push (held n) (tally (d.polygons + 1) b)

module _ (s : List ℕ) (d : Cursor) (b : Taken) (r : Raw s d b) (closed : d.header ≡ false) (few : d.polygons < 64) (n : ℕ) (one : 1 ≤ n) (little : Bool) (nine : d.at + 9 ≤ length s) where
  pub polygon_good : Good s (rings_at n little d) (with_polygon n d b)
  polygon_good = record {
    raw = record {
      within = nine;
      member = r.member;
      own = λ e. absurd (true≢false (sym e ∙ closed));
      many = omega arith;
      total = r.total;
      marked = λ e.
          let m = r.marked closed in
          still_marked (set b.numbers b.mark (held (d.polygons + 1))) (held n ∷ []) b.mark (held (d.polygons + 1))
          (omega (arith, m.0, length-set b.numbers b.mark (held (d.polygons + 1))), get_or-set_same b.numbers b.mark (held (d.polygons + 1)) 0 m.0);
    };
    going = λ e. let z = (is_complete (rings_at n little d) e).no_rings in absurd (omega arith);
  }

  module _ (rs : List (List Pair)) (w : Left) (number : length rs ≡ n) where
    pub polygon_outcome : outcome (rings_at n little d) (with_polygon n d b) [] rs w ≡ pending_outcome d b (ringed little Polygon rs) w
    unfolding outcome pending_outcome front flat_map member_of left_numbers
    polygon_outcome =
        let m = r.marked closed in
        let k = length (left_open w) in
        let e : d.polygons + 1 + k ≡ d.polygons + suc k = omega arith in
        let v : ℕ = held (d.polygons + 1) in
        rw (closed, length-map rs ring_of, number, e, ← millimetres_count n)
        (pushed (set b.numbers b.mark v) (held n ∷ []) b.mark (held (d.polygons + suc k)) _ (omega (arith, m.0, length-set b.numbers b.mark v))
        ∙ rw (set-set b.numbers b.mark v (held (d.polygons + suc k)), append_assoc (flat_map ring_numbers (map ring_of rs)) (flat_map part_numbers (left_open w)) (flat_map member_numbers (each member_of w.members))) refl)

    pub polygon_stands : d.points ≡ 0 → PolygonFits rs → drop (d.at + 9) s ≡ flat_map (encode_ring little) rs ++ left_bytes w
        → Pending s d (ringed little Polygon rs) w → Stands s (rings_at n little d) (with_polygon n d b) [] rs w
    unfolding flat_map member_of
    polygon_stands z f e h = record {
      polygon = no_ring z number e f.1;
      below = h.below;
      polygons_fit = let m = h.polygons_fit in omega arith;
      total_fits = let t = h.total_fits in omega arith;
    }

    pub polygon_pends : drop d.at s ≡ heading little 3 n ++ drop (d.at + 9) s → Stands s (rings_at n little d) (with_polygon n d b) [] rs w → Pending s d (ringed little Polygon rs) w
    unfolding flat_map member_of encode
    polygon_pends e h = record {
      below = h.below;
      bytes = e ∙ ap (λ l. heading little 3 n ++ l) h.polygon.bytes ∙ rw (heading_is little Polygon (length rs), number) (sym (append_assoc (heading little 3 n) (flat_map (encode_ring little) rs) (left_bytes w)));
      polygons_fit = let m = h.polygons_fit in omega arith;
      total_fits = let t = h.total_fits in omega arith;
    }
