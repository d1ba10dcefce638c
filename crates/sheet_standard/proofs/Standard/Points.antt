-- A point of the open polygon, in the table and under a member: what one turn of reading does to the lists of what is left, both ways. The ring's first point
-- is remembered, so that its last one can be held to it. Under a member a point adds its two numbers. Assumes nothing.
use mathlib.Core.Path.{◌≡◌, refl, sym, ◌∙◌, ap, subst}
use mathlib.Core.Bool.{Bool, true, false, cond, ◌&&◌, true≢false}
use mathlib.Core.List.{List, [], ◌∷◌, ◌++◌, flat_map, append_assoc}
use Prim.Native.Nat.{ℕ, ◌+◌, ◌-◌, ◌≤◌, ◌<◌}
use native.Mathlib.Omega.{arith}
use borrow.Author.Tests.{ne_eqb}
use lib.Ieee.{binary64, of_bits}
use lib.ListN.{length}
use Rattle.plane.specs.Points.{Point}
use Rattle.plane.specs.Corners.{millimetres}
use Rattle.sheet_coordinate.specs.Coordinate.{coordinate_of}
use Rattle.std.specs.Prelude.{Some}
use Rattle.wkb.specs.declared.Cursor.{Cursor}
use Rattle.wkb.specs.Places.{moved, points_to_come}
use Rattle.wkb.specs.Standard.{Pair, encode_point, encode_ring}
use Rattle.wkb.specs.Steps.{renewed, after_point}
use Rattle.sheet.specs.Reading.{Taken, held, numbered, push, noted, in_table, closing, last_of_table, pointing}
use Rattle.sheet.specs.Going.{reading}
use Rattle.sheet.proofs.Run.{renewed_at}
use Rattle.sheet_standard.specs.Limits.{number_of, point_of}
use Rattle.lent_fields.proofs.Fields.{Bytes}
use Rattle.sheet_standard.proofs.Standard.Fields.{points}
use Rattle.sheet_standard.proofs.Standard.Steps.{point_goes, PointRead, point_back}
use Rattle.sheet_standard.proofs.Standard.Left.{Left, Closes, OpenPolygon, Stands, Raw, front, outcome, Ends, millimetres_same, pushed, still_marked, Found, Through, Back}
use Rattle.sheet_standard.proofs.Standard.Renewed.{renew_good, renew_stands, renew_back, renew_outcome}

-- The place after a point, before a complete member gives way to the next.
abbrev pub passed : Cursor → Cursor
passed c = points_to_come (c.points - 1) (moved 16 c)

-- The number of a pattern that is read as a coordinate.
number_is : (pattern h : ℕ) → coordinate_of (of_bits binary64 pattern) ≡ Some h → number_of pattern ≡ millimetres h
unfolding number_of
number_is pattern h e = rw e refl

-- The ring's first point after this one.
noted_is : (b : Taken) (p : Pair) (x y : ℕ) → number_of p.x ≡ millimetres x → number_of p.y ≡ millimetres y
    → cond b.first (point_of p) (record { x = millimetres b.x; y = millimetres b.y }) ≡ record { x = millimetres (noted x y b).x; y = millimetres (noted x y b).y }
noted_is b p x y ex ey = go b.first
  where
    go : (t : Bool) → ◌≡◌ {A = Point} (cond t (point_of p) (record { x = millimetres b.x; y = millimetres b.y })) (record { x = millimetres (cond t x b.x); y = millimetres (cond t y b.y) })
    go true = λ i. record { x = ex i; y = ey i }
    go false = refl

-- Whatever numbers a point adds, it is noted.
pointing_notes : (c : Cursor) (x y : ℕ) (b : Taken) → pointing c x y b ≡ numbered (pointing c x y b).numbers (noted x y b)
unfolding pointing
pointing_notes c x y b = go (in_table c && closing c) (last_of_table c)
  where
    go : (t u : Bool) → let b' : Taken = cond t (noted x y b) (push y (push x (noted x y b))) in let b'' : Taken = cond u (push (held c.members) b') b' in b'' ≡ numbered b''.numbers (noted x y b)
    go true true = refl
    go true false = refl
    go false true = refl
    go false false = refl

module _ (b : Taken) (p : Pair) (x y : ℕ) (ex : number_of p.x ≡ millimetres x) (ey : number_of p.y ≡ millimetres y) (l : List ℕ) where
  closes_next : (ps : List Pair) → Closes b (p ∷ ps) → Closes (numbered l (noted x y b)) ps × (length ps ≡ 0 → (x ≡ (noted x y b).x) × (y ≡ (noted x y b).y))
  closes_next [] h =
      let k = h ∙ noted_is b p x y ex ey in
      (tt, λ e. (millimetres_same x (noted x y b).x (sym ex ∙ ap (λ (q : Point). q.x) k), millimetres_same y (noted x y b).y (sym ey ∙ ap (λ (q : Point). q.y) k)))
  closes_next (q ∷ qs) h = (h ∙ noted_is b p x y ex ey, λ e. absurd (omega arith))

  closes_back : (ps : List Pair) → Closes (numbered l (noted x y b)) ps → (length ps ≡ 0 → (x ≡ (noted x y b).x) × (y ≡ (noted x y b).y)) → Closes b (p ∷ ps)
  closes_back [] h f =
      let k = f refl in
      (λ i. record { x = (ex ∙ ap millimetres k.0) i; y = (ey ∙ ap millimetres k.1) i }) ∙ sym (noted_is b p x y ex ey)
  closes_back (q ∷ qs) h f = h ∙ sym (noted_is b p x y ex ey)

-- ---- a point of the open polygon
-- Reading goes on behind the point, where the rest of the polygon stands.
pub record PointPassed (high : ℕ) (s : List ℕ) (c : Cursor) (b : Taken) (p : Pair) (ps : List Pair) (rs : List (List Pair)) (rest : List ℕ) : Type 0 where
  pub x : ℕ
  pub y : ℕ
  pub x_is : number_of p.x ≡ millimetres x
  pub y_is : number_of p.y ≡ millimetres y
  pub fits : c.at + 16 ≤ length s
  pub goes : reading s c b ≡ reading s (renewed (passed c)) (pointing c x y b)
  pub polygon : OpenPolygon high s (passed c) (pointing c x y b) ps rs rest

module _ {high : ℕ} {s : List ℕ} (c : Cursor) {b : Taken} {ps : List Pair} {rs : List (List Pair)} {rest : List ℕ} where
  pub point_passed : {p : Pair} → c.at ≤ length s → OpenPolygon high s c b (p ∷ ps) rs rest → PointPassed high s c b p ps rs rest
  unfolding after_point flat_map
  point_passed {p} within h =
      let n = h.points_number in
      let X = h.points_fit.0.0 in
      let Y = h.points_fit.0.1 in
      let x = X.h in
      let y = Y.h in
      let ex = number_is p.x x X.is in
      let ey = number_is p.y y Y.is in
      let q = points s c.at c.little p _ within X.eight Y.eight (h.bytes ∙ append_assoc (encode_point c.little p) (flat_map (encode_point c.little) ps) (flat_map (encode_ring c.little) rs ++ rest)) in
      let cl = closes_next b p x y ex ey (pointing c x y b).numbers ps h.closes in
      record {
        x = x;
        y = y;
        x_is = ex;
        y_is = ey;
        fits = q.sixteen;
        goes = point_goes s c b p _ x y (omega arith) q X.is Y.is (λ m. cl.1 (omega arith));
        polygon = record {
          points_number = omega arith;
          rings_number = h.rings_number;
          bytes = q.next;
          points_fit = h.points_fit.1;
          closes = subst (λ d. Closes d ps) (sym (pointing_notes c x y b)) cl.0;
          rings_fit = h.rings_fit;
        };
      }

  pub point_before : (k : PointRead s c b) → 0 < c.points → OpenPolygon high s (passed c) (pointing c k.x k.y b) ps rs rest → OpenPolygon high s c b (k.p ∷ ps) rs rest
  unfolding flat_map
  point_before k some h =
      let n = h.points_number in
      let x = k.x in
      let y = k.y in
      record {
        points_number = omega arith;
        rings_number = h.rings_number;
        bytes = k.bytes ∙ ap (λ l. encode_point c.little k.p ++ l) h.bytes ∙ sym (append_assoc (encode_point c.little k.p) (flat_map (encode_point c.little) ps) (flat_map (encode_ring c.little) rs ++ rest));
        points_fit = ((record { eight = k.x_eight; h = x; is = k.x_is }, record { eight = k.y_eight; h = y; is = k.y_is }), h.points_fit);
        closes = closes_back b k.p x y (number_is k.p.x x k.x_is) (number_is k.p.y y k.y_is) (pointing c x y b).numbers ps
            (subst (λ d. Closes d ps) (pointing_notes c x y b) h.closes) (λ z. k.closed (omega arith));
        rings_fit = h.rings_fit;
      }

-- ---- under a member
abbrev pub with_point : ℕ → ℕ → Taken → Taken
with_point x y b = push y (push x (noted x y b))

pointing_member : (c : Cursor) (x y : ℕ) (b : Taken) → 2 ≤ c.member → pointing c x y b ≡ with_point x y b
unfolding pointing
pointing_member c x y b h = rw (ne_eqb c.member 1 (λ e. absurd (omega arith))) refl

pub no_header : {s : List ℕ} {c : Cursor} {b : Taken} → Raw s c b → (c.header ≡ true → ⊥) → c.header ≡ false
no_header {s} {c} {b} r f = go c.header refl
  where
    go : (t : Bool) → c.header ≡ t → t ≡ false
    go true e = absurd (f e)
    go false e = refl

module _ (s : List ℕ) (c : Cursor) (b : Taken) (r : Raw s c b) (some : 0 < c.points) (x y : ℕ) (fits : c.at + 16 ≤ length s) where
  point_header : c.header ≡ false
  point_header = no_header r (λ e. let z = (r.own e).0 in absurd (omega arith))

  point_raw : Raw s (passed c) (with_point x y b)
  point_raw = record {
    within = fits;
    member = r.member;
    many = r.many;
    total = r.total;
    own = λ e. absurd (true≢false (sym e ∙ point_header));
    marked = λ e. still_marked (b.numbers ++ x ∷ []) (y ∷ []) b.mark (held c.polygons) (still_marked b.numbers (x ∷ []) b.mark (held c.polygons) (r.marked e));
  }

  point_outcome : (p : Pair) (ps : List Pair) (rs : List (List Pair)) (w : Left) → number_of p.x ≡ millimetres x → number_of p.y ≡ millimetres y → outcome (passed c) (with_point x y b) ps rs w ≡ outcome c b (p ∷ ps) rs w
  unfolding outcome front flat_map
  point_outcome p ps rs w ex ey =
      let m = r.marked point_header in
      rw (point_header, ex, ey)
      (pushed (b.numbers ++ x ∷ []) (y ∷ []) b.mark _ _ (still_marked b.numbers (x ∷ []) b.mark _ m).0 ∙ pushed b.numbers (x ∷ []) b.mark _ _ m.0)

pub point_through : (s : List ℕ) (c : Cursor) (b : Taken) (p : Pair) (ps : List Pair) (rs : List (List Pair)) (w : Left) → Raw s c b → Stands s c b (p ∷ ps) rs w → Through s c → Ends (reading s c b) (outcome c b (p ∷ ps) rs w)
point_through s c b p ps rs w r h later =
    let some : 0 < c.points = let n = h.polygon.points_number in omega arith in
    let k = point_passed c r.within h.polygon in
    let d = passed c in
    let b' = with_point k.x k.y b in
    let raw = point_raw s c b r some k.x k.y k.fits in
    let is = pointing_member c k.x k.y b r.member in
    let st : Stands s d b' ps rs w = record { polygon = rw is at k.polygon; below = h.below; polygons_fit = h.polygons_fit; total_fits = h.total_fits } in
    rw (k.goes, is, ← point_outcome s c b r some k.x k.y k.fits p ps rs w k.x_is k.y_is, ← renew_outcome s d b' ps rs w raw st)
    (later (renewed d) b' ps rs w (omega (arith, renewed_at d)) (renew_good s d b' raw) (renew_stands s d b' ps rs w raw st))

pub point_return : (s : List ℕ) (c : Cursor) (b : Taken) → Bytes s → Raw s c b → 0 < c.points → (reading s c b).code ≡ 0 → Back s c → Found s c b
unfolding after_point
point_return s c b bytes r some code later =
    let k = point_back s c b bytes some code in
    let d = passed c in
    let b' = with_point k.x k.y b in
    let raw = point_raw s c b r some k.x k.y k.fits in
    let is = pointing_member c k.x k.y b r.member in
    let f = later (renewed d) b' (omega (arith, renewed_at d)) (renew_good s d b' raw) (rw is at k.on_with) in
    let st = renew_back s d b' f.0 f.1 f.2 raw f.3 in
    (k.p ∷ f.0, f.1, f.2, record { polygon = point_before c k some (rw is st.polygon); below = st.below; polygons_fit = st.polygons_fit; total_fits = st.total_fits })
