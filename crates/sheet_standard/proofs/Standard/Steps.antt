-- One turn of reading at a place where a point, a ring, the end or a geometry is to come, both ways: with its bytes there and within the
-- limits reading goes on from the next place; and where reading ends with code 0, its bytes stand there, within the limits, and reading
-- from the next place ends with code 0. Assumes nothing.
use mathlib.Core.Path.{◌≡◌, refl, sym, ◌∙◌, ap}
use mathlib.Core.Bool.{Bool, true, false, not, cond, ◌&&◌}
use mathlib.Core.List.{List, ◌++◌}
use Prim.Native.Nat.{ℕ, ◌+◌, ◌^◌, ◌≤◌, ◌<◌}
use native.Mathlib.Omega.{arith}
use borrow.Author.Tests.{lt-ltb, le-ltb, le-leb, eq-eqb, ne_eqb, ltb-true, leb-true, eqb-true, eqb-false}
use lib.Dec.{ltb, eqb}
use lib.Ieee.{binary64, of_bits}
use lib.ListN.{length, drop, get_or}
use Rattle.whole.proofs.Tests.{by_equal}
use Rattle.sheet_coordinate.specs.Coordinate.{coordinate_of}
use Rattle.std.specs.Prelude.{Option, Some, None}
use Rattle.wkb.specs.declared.Cursor.{Cursor}
use Rattle.wkb_kinds.specs.declared.Slot.{Slot}
use Rattle.wkb.specs.declared.Step.{Step}
use Rattle.lent_little.specs.Ordered.{number_of, bytes_of, field, remains, word_at, double_at}
use Rattle.wkb.specs.Standard.{Pair, order, encode_point}
use Rattle.lent.proofs.Refusals.{no_success}
use Rattle.wkb.proofs.Reasons.{by_fault, allowed_code, code_allowed}
use Rattle.wkb.specs.Steps.{slot_of, complete, kind_reason, kind_fault, count_fits, opened, geometry_at, ring_fits, with_points, ring_at, after_point, point_at, end_at, step_at}
use Rattle.wkb.specs.Faults.{EndDue}
use Rattle.wkb.proofs.Due.{at_point, at_ring, at_end, at_header}
use Rattle.sheet.specs.Reading.{Taken, Reading, Turn, on, over, opening, ringing, noted, pointing, judged, taken, turn}
use Rattle.sheet.specs.Going.{reading}
use Rattle.sheet.proofs.Run.{reading_turns}
use Rattle.lent_fields.proofs.Fields.{Bytes, Reads, written, number_fits}
use Rattle.wkb.proofs.Orders.{order_said, said_order}
use Rattle.sheet_standard.proofs.Standard.Fields.{heading, Heads, headed, Points, pointed}

pub cond_yes : {A : Type 0} {b : Bool} (x y : A) → b ≡ true → cond b x y ≡ x
cond_yes x y e = rw e

pub cond_no : {A : Type 0} {b : Bool} (x y : A) → b ≡ false → cond b x y ≡ y
cond_no x y e = rw e

-- Where a turn leads.
abbrev leads : List ℕ → Turn → Reading
leads s (on c' b') = reading s c' b'
leads s (over r) = r

turned : (s : List ℕ) (c : Cursor) (b : Taken) → reading s c b ≡ leads s (taken c b (step_at s c))
unfolding turn
turned s c b = reading_turns s c b ∙ go (taken c b (step_at s c))
  where
    go : (t : Turn) → ◌≡◌ {A = Reading} (elim t [ on c' b' ↦ reading s c' b' | over r ↦ r ]) (leads s t)
    go (on c' b') = refl
    go (over r) = refl

-- ---- a point
not_open : (n x y x' y' : ℕ) → (n ≡ 1 → (x ≡ x') × (y ≡ y')) → (eqb n 1 && not (eqb x x' && eqb y y')) ≡ false
not_open n x y x' y' h = go (eqb n 1) (λ e. h (eqb-true n 1 e))
  where
    go : (t : Bool) → (t ≡ true → (x ≡ x') × (y ≡ y')) → (t && not (eqb x x' && eqb y y')) ≡ false
    go true f = rw (eq-eqb x x' (f refl).0, eq-eqb y y' (f refl).1)
    go false f = refl

closed_then : (n x y x' y' : ℕ) → (eqb n 1 && not (eqb x x' && eqb y y')) ≡ false → n ≡ 1 → (x ≡ x') × (y ≡ y')
closed_then n x y x' y' e h = go (eqb x x') (eqb y y') refl refl (rw (eq-eqb n 1 h) at e)
  where
    go : (p q : Bool) → eqb x x' ≡ p → eqb y y' ≡ q → not (p && q) ≡ false → (x ≡ x') × (y ≡ y')
    go true true e f g = (eqb-true x x' e, eqb-true y y' f)
    go true false e f g = let z : ◌≡◌ {A = ℕ} 0 1 = cc in absurd (omega arith)
    go false q e f g = let z : ◌≡◌ {A = ℕ} 0 1 = cc in absurd (omega arith)

pub point_goes : (s : List ℕ) (c : Cursor) (b : Taken) (p : Pair) (rest : List ℕ) (x y : ℕ) → 0 < c.points → Points s c.at c.little p rest
    → coordinate_of (of_bits binary64 p.x) ≡ Some x → coordinate_of (of_bits binary64 p.y) ≡ Some y
    → (c.points ≡ 1 → (x ≡ (noted x y b).x) × (y ≡ (noted x y b).y)) → reading s c b ≡ reading s (after_point c) (pointing c x y b)
unfolding point_at taken judged double_at
point_goes s c b p rest x y h r ex ey closed =
    turned s c b ∙ rw (at_point s c h, le-leb (c.at + 16) (length s) r.sixteen, r.x_is, r.y_is, ex, ey, not_open c.points x y (noted x y b).x (noted x y b).y closed) refl

pub record PointRead (s : List ℕ) (c : Cursor) (b : Taken) : Type 0 where
  pub p : Pair
  pub x : ℕ
  pub y : ℕ
  pub fits : c.at + 16 ≤ length s
  pub bytes : drop c.at s ≡ encode_point c.little p ++ drop (c.at + 16) s
  pub x_eight : p.x < 2 ^ 64
  pub y_eight : p.y < 2 ^ 64
  pub x_is : coordinate_of (of_bits binary64 p.x) ≡ Some x
  pub y_is : coordinate_of (of_bits binary64 p.y) ≡ Some y
  pub closed : c.points ≡ 1 → (x ≡ (noted x y b).x) × (y ≡ (noted x y b).y)
  pub on_with : (reading s (after_point c) (pointing c x y b)).code ≡ 0

pub point_back : (s : List ℕ) (c : Cursor) (b : Taken) → Bytes s → 0 < c.points → (reading s c b).code ≡ 0 → PointRead s c b
unfolding point_at taken judged double_at
point_back s c b bytes h code =
    by_equal (λ (t : Step). (leads s (taken c b t)).code ≡ 0 → PointRead s c b) (remains s c.at 16) _ _
    (λ e. judge e (coordinate_of (of_bits binary64 X.x)) (coordinate_of (of_bits binary64 X.y)) refl refl)
    (λ e k. absurd (omega arith))
    (rw (turned s c b, at_point s c h) at code)
  where
    X : Pair
    X = record { x = number_of c.little (field s c.at 8); y = number_of c.little (field s (c.at + 8) 8) }

    judge : remains s c.at 16 ≡ true → (u v : Option ℕ) → coordinate_of (of_bits binary64 X.x) ≡ u → coordinate_of (of_bits binary64 X.y) ≡ v
        → (leads s (judged c (after_point c) b u v)).code ≡ 0 → PointRead s c b
    judge e None v p q k = absurd (omega arith)
    judge e (Some x) None p q k = absurd (omega arith)
    judge e (Some x) (Some y) p q k =
        by_equal (λ (t : Turn). (leads s t).code ≡ 0 → PointRead s c b) (eqb c.points 1 && not (eqb x (noted x y b).x && eqb y (noted x y b).y)) _ _
        (λ f k. absurd (omega arith))
        (λ f k.
        let l = leb-true (c.at + 16) (length s) e in
        let l8 : c.at + 8 ≤ length s = omega arith in
        let l16 : c.at + 8 + 8 ≤ length s = omega arith in
        record {
          p = X;
          x = x;
          y = y;
          fits = l;
          bytes = pointed s c.at c.little bytes l;
          x_eight = number_fits c.little 8 s c.at bytes l8;
          y_eight = number_fits c.little 8 s (c.at + 8) bytes l16;
          x_is = p;
          y_is = q;
          closed = closed_then c.points x y (noted x y b).x (noted x y b).y f;
          on_with = k;
        }) k

-- ---- a ring's count
pub ring_goes : (s : List ℕ) (c : Cursor) (b : Taken) (n : ℕ) (rest : List ℕ) → c.points ≡ 0 → 0 < c.rings → Reads c.little 4 s c.at n rest
    → ring_fits c n ≡ true → reading s c b ≡ reading s (with_points n c) (ringing c n b)
unfolding ring_at taken word_at
ring_goes s c b n rest p h r f = turned s c b ∙ rw (at_ring s c (p, h), le-leb (c.at + 4) (length s) r.fits, r.number, f) refl

pub record RingRead (s : List ℕ) (c : Cursor) (b : Taken) : Type 0 where
  pub n : ℕ
  pub fits : c.at + 4 ≤ length s
  pub bytes : drop c.at s ≡ bytes_of c.little 4 n ++ drop (c.at + 4) s
  pub allowed : ring_fits c n ≡ true
  pub on_with : (reading s (with_points n c) (ringing c n b)).code ≡ 0

pub ring_back : (s : List ℕ) (c : Cursor) (b : Taken) → Bytes s → c.points ≡ 0 → 0 < c.rings → (reading s c b).code ≡ 0 → RingRead s c b
unfolding ring_at taken word_at
ring_back s c b bytes p h code =
    by_equal (λ (t : Step). (leads s (taken c b t)).code ≡ 0 → RingRead s c b) (remains s c.at 4) _ _
    (λ e. by_equal (λ (t : Step). (leads s (taken c b t)).code ≡ 0 → RingRead s c b) (ring_fits c (word_at c.little s c.at)) _ _
    (λ f k.
    let l = leb-true (c.at + 4) (length s) e in
    record { n = word_at c.little s c.at; fits = l; bytes = written c.little 4 s c.at bytes l; allowed = f; on_with = k })
    (λ f k. absurd (omega arith)))
    (λ e k. absurd (omega arith))
    (rw (turned s c b, at_ring s c (p, h)) at code)

-- ---- the end
end_due : (c : Cursor) → c.points ≡ 0 → c.rings ≡ 0 → 1 ≤ c.member → complete c ≡ true → EndDue c
end_due c p r m e = (p, r, rw (ne_eqb c.member 0 (λ q. absurd (omega arith)), e) refl)

pub end_goes : (s : List ℕ) (c : Cursor) (b : Taken) → c.points ≡ 0 → c.rings ≡ 0 → 1 ≤ c.member → complete c ≡ true → c.at ≡ length s
    → reading s c b ≡ record { code = 0; item = 0; position = 0; numbers = b.numbers }
unfolding end_at taken
end_goes s c b p r m e h = turned s c b ∙ rw (at_end s c (end_due c p r m e), le-ltb c.at (length s) (omega arith), eq-eqb c.at (length s) h) refl

pub end_back : (s : List ℕ) (c : Cursor) (b : Taken) → c.points ≡ 0 → c.rings ≡ 0 → 1 ≤ c.member → complete c ≡ true → (reading s c b).code ≡ 0 → c.at ≡ length s
unfolding end_at taken
end_back s c b p r m e code =
    by_equal (λ (t : Step). (leads s (taken c b t)).code ≡ 0 → c.at ≡ length s) (ltb c.at (length s)) _ _ (λ f k. absurd (omega arith))
    (λ f. by_equal (λ (t : Step). (leads s (taken c b t)).code ≡ 0 → c.at ≡ length s) (eqb c.at (length s)) _ _ (λ g k. eqb-true c.at (length s) g) (λ g k. absurd (omega arith)))
    (rw (turned s c b, at_end s c (end_due c p r m e)) at code)

-- ---- a geometry's header
-- No point and no ring is to come, and not the end: a geometry.
pub record AtGeometry (c : Cursor) : Type 0 where
  pub no_points : c.points ≡ 0
  pub no_rings : c.rings ≡ 0
  pub more : (not (eqb c.member 0) && complete c) ≡ false

pub geometry_goes : (s : List ℕ) (c : Cursor) (b : Taken) (slot : Slot) (little : Bool) (kind n : ℕ) (rest : List ℕ) → AtGeometry c → slot_of c ≡ slot
    → Heads s c.at little kind n rest → kind_fault slot c kind ≡ 0 → count_fits c.limit slot n ≡ true
    → reading s c b ≡ reading s (opened slot c little kind n) (opening slot c (opened slot c little kind n) kind n b)
unfolding geometry_at taken
geometry_goes s c b slot little kind n rest a e h f g =
    turned s c b
    ∙ rw (
      at_header s c (a.no_points, a.no_rings, a.more),
      e,
      said_order (get_or s c.at 0) little h.first,
      h.kind_is,
      h.count_is,
      code_allowed slot c kind f,
      g,
      le-leb (c.at + 1) (length s) (omega (arith, h.nine)),
      lt-ltb (get_or s c.at 0) 2 (below little h.first),
      le-leb (c.at + 5) (length s) (omega (arith, h.nine)),
      le-leb (c.at + 9) (length s) h.nine,
    )
    (ap (λ (t : Slot). reading s (opened slot c little kind n) (opening t c (opened slot c little kind n) kind n b)) e)
  where
    below : (little : Bool) → get_or s c.at 0 ≡ order little → get_or s c.at 0 < 2
    below true e = omega arith
    below false e = omega arith

pub record GeometryRead (s : List ℕ) (c : Cursor) (b : Taken) : Type 0 where
  pub little : Bool
  pub kind : ℕ
  pub n : ℕ
  pub nine : c.at + 9 ≤ length s
  pub bytes : drop c.at s ≡ heading little kind n ++ drop (c.at + 9) s
  pub allowed : kind_fault (slot_of c) c kind ≡ 0
  pub counts : count_fits c.limit (slot_of c) n ≡ true
  pub on_with : (reading s (opened (slot_of c) c little kind n) (opening (slot_of c) c (opened (slot_of c) c little kind n) kind n b)).code ≡ 0

pub geometry_back : (s : List ℕ) (c : Cursor) (b : Taken) → Bytes s → AtGeometry c → (reading s c b).code ≡ 0 → GeometryRead s c b
unfolding geometry_at taken
geometry_back s c b bytes a code =
    let P : Step → Type 0 = λ (t : Step). (leads s (taken c b t)).code ≡ 0 → GeometryRead s c b in
    let little : Bool = eqb (get_or s c.at 0) 1 in
    let kind : ℕ = word_at little s (c.at + 1) in
    let n : ℕ = word_at little s (c.at + 5) in
    by_equal P (remains s c.at 1) _ _
    (λ e1. by_equal P (ltb (get_or s c.at 0) 2) _ _
    (λ e2. by_equal P (remains s c.at 5) _ _
    (λ e5. by_fault P (kind_reason (slot_of c) c kind) _ _ _
    (λ e0. by_equal P (remains s c.at 9) _ _
    (λ e9. by_equal P (count_fits c.limit (slot_of c) n) _ _
    (λ f k.
    let l = leb-true (c.at + 9) (length s) e9 in
    record {
      little = little;
      kind = kind;
      n = n;
      nine = l;
      bytes = headed s c.at little bytes l (sym (order_said (get_or s c.at 0) (ltb-true (get_or s c.at 0) 2 e2)));
      allowed = allowed_code (slot_of c) c kind e0;
      counts = f;
      on_with = k;
    })
    (λ f k. absurd (omega arith)))
    (λ f k. absurd (omega arith)))
    (λ reason f k. absurd (no_success reason k)))
    (λ f k. absurd (omega arith)))
    (λ f k. absurd (omega arith)))
    (λ f k. absurd (omega arith))
    (rw (turned s c b, at_header s c (a.no_points, a.no_rings, a.more)) at code)
