-- One turn of reading at a place: it is over with a refusal exactly if something is wrong there, with its code, its item and its position.
-- The idea: each answer of a step comes with what was tested for it; and what is at fault decides each test on the way. Assumes nothing.
use mathlib.Core.Path.{◌≡◌, refl, sym, ◌∙◌, ap, ap₂, subst}
use mathlib.Core.Logic.{◌↔◌, ◌⊎◌, inl, inr}
use mathlib.Core.Bool.{Bool, true, false, not, cond, ◌&&◌, ◌||◌}
use mathlib.Core.List.{List}
use Prim.Native.Nat.{ℕ, ◌+◌, ◌≤◌}
use native.Mathlib.Omega.{arith}
use borrow.Author.Tests.{lt-ltb, le-ltb, le-leb, lt-leb, ne_eqb}
use lib.Dec.{T, leb, eqb}
use lib.ListN.{length}
use Rattle.whole.proofs.Tests.{by_equal}
use Rattle.lent.specs.declared.Reason.{Reason}
use Rattle.lent.specs.declared.Reason.TheVariants.{Short, ByteOrder, Count, Behind}
use Rattle.lent.specs.Refusals.{code_of}
use Rattle.lent_little.specs.Ordered.{double_at}
use Rattle.sheet_coordinate.specs.Coordinate.{coordinate_of}
use Rattle.std.specs.Prelude.{Option, Some, None}
use Rattle.wkb.specs.declared.Cursor.{Cursor}
use Rattle.wkb.specs.declared.Step.{Step}
use Rattle.wkb.specs.declared.Step.TheVariants.{Geometry, Ring, Point, End, Refused}
use Rattle.wkb.specs.Steps.{slot_of, after_point, geometry_at, ring_at, point_at, end_at, step_at}
use Rattle.wkb.specs.Faults.{PointDue, order_at, type_at, Fault, point_cut, ring_cut, ring_count, past, surplus, order_cut, order, type_cut, type, count_cut, count, item_at}
use Rattle.wkb.proofs.Cases.{named, by_case}
use Rattle.wkb.proofs.Reasons.{code_allowed, code_fault}
use Rattle.wkb.proofs.Due.{at_point, at_ring, at_end, at_header}
use Rattle.sheet.specs.Reading.{Taken, Reading, Turn, on, over, differs, judged, taken, turn}
use Rattle.sheet_positions.specs.Faults.{Wrong, field, x, y, unclosed}

-- A refusal by a step's own code names the member.
member_named : (code : ℕ) (c : Cursor) → T (named code) → c.member ≡ item_at code c
member_named code c t = go (eqb code 0) (eqb code 7) t
  where
    go : (z s : Bool) → T (not (z || s) && leb code 8) → c.member ≡ cond s 0 c.member
    go true s t = absurd t
    go false true t = absurd t
    go false false t = refl

-- ---- what is at fault decides the step
module _ (s : List ℕ) (c : Cursor) where
  point_there : PointDue c → c.at + 16 ≤ length s → step_at s c ≡ Point (double_at c.little s c.at) (double_at c.little s (c.at + 8)) (after_point c)
  unfolding point_at
  point_there p l = at_point s c p ∙ rw (le-leb (c.at + 16) (length s) l)

  -- The step stops there with the code and the position.
  abbrev Stops : ℕ → ℕ → Type 0
  Stops code at = (item : ℕ) × (reason : Reason) × (code_of reason ≡ code) × (step_at s c ≡ Refused reason item at c)

  stops : {code at : ℕ} → Fault s c code at → Stops code at
  unfolding point_at ring_at end_at geometry_at
  stops (point_cut due l) = (c.member, Short, refl, at_point s c due ∙ rw (lt-leb (c.at + 16) (length s) l))
  stops (ring_cut due l) = (c.member, Short, refl, at_ring s c due ∙ rw (lt-leb (c.at + 4) (length s) l))
  stops (ring_count due l f) = (c.member, Count, refl, at_ring s c due ∙ rw (le-leb (c.at + 4) (length s) l, f))
  stops (past due l) = (c.member, Short, refl, at_end s c due ∙ rw (le-ltb c.at (length s) (omega arith), ne_eqb c.at (length s) (λ e. omega arith)))
  stops (surplus due l) = (0, Behind, refl, at_end s c due ∙ rw (lt-ltb c.at (length s) l))
  stops (order_cut due l) = (c.member, Short, refl, at_header s c due ∙ rw (lt-leb (c.at + 1) (length s) l))
  stops (order due l o) = (c.member, ByteOrder, refl, at_header s c due ∙ rw (le-leb (c.at + 1) (length s) l, le-ltb (order_at s c) 2 o))
  stops (type_cut due (l, o) f) = (c.member, Short, refl, at_header s c due ∙ rw (le-leb (c.at + 1) (length s) l, lt-ltb (order_at s c) 2 o, lt-leb (c.at + 5) (length s) f))
  stops (type due (l, o) m f) =
      let (reason, e, w) = code_fault (slot_of c) c (type_at s c) f in
      (c.member, reason, sym w, at_header s c due ∙ rw (le-leb (c.at + 1) (length s) l, lt-ltb (order_at s c) 2 o, le-leb (c.at + 5) (length s) m, e))
  stops (count_cut due ((l, o), m, k) f) =
      (c.member, Short, refl, at_header s c due ∙ rw (le-leb (c.at + 1) (length s) l, lt-ltb (order_at s c) 2 o, le-leb (c.at + 5) (length s) m, code_allowed (slot_of c) c (type_at s c) k, lt-leb (c.at + 9) (length s) f))
  stops (count due ((l, o), m, k) n f) =
      (c.member, Count, refl, at_header s c due ∙ rw (le-leb (c.at + 1) (length s) l, lt-ltb (order_at s c) 2 o, le-leb (c.at + 5) (length s) m, code_allowed (slot_of c) c (type_at s c) k, le-leb (c.at + 9) (length s) n, f))

  -- A refusal of the step is for what is at fault, and its item is the code's.
  abbrev Found : Step → Type 0
  Found (Geometry kind n d) = Unit {0}
  Found (Ring n d) = Unit {0}
  Found (Point u v d) = Unit {0}
  Found (End d) = Unit {0}
  Found (Refused reason item at d) = Fault s c (code_of reason) at × (item ≡ item_at (code_of reason) c) × (d ≡ c)

  found : Found (step_at s c)
  found = by_case Found s c (record {
    refused = λ reason at t f. (f, member_named (code_of reason) c t, refl);
    point = λ p l. tt;
    ring = λ p r l n f. tt;
    end = λ due. (λ e. tt, λ l. (surplus due l, refl, refl));
    geometry = λ p r t l little kind n k f. tt;
  })

  -- The step is refused for a reason with this code, with this item and position, and hands back this place.
  abbrev pub RefusedAs : ℕ → ℕ → ℕ → Cursor → Type 0
  RefusedAs code item at d = (reason : Reason) × (code_of reason ≡ code) × (step_at s c ≡ Refused reason item at d)

  -- A step is refused exactly if something is at fault at its place, with its code, item and position, and hands back the place.
  pub refused_exactly : (code item at : ℕ) (d : Cursor) → RefusedAs code item at d ↔ (Fault s c code at × (item ≡ item_at code c) × (d ≡ c))
  refused_exactly code item at d = (λ (reason, w, e). subst (λ k. Fault s c k at × (item ≡ item_at k c) × (d ≡ c)) w (subst Found e found), back)
    where
      back : Fault s c code at × (item ≡ item_at code c) × (d ≡ c) → RefusedAs code item at d
      back (f, i, q) =
          let (k, reason, w, e) = stops f in
          let j = (subst Found e found).1 in
          (reason, w, e ∙ ap₂ (λ m z. Refused reason m at z) (j ∙ ap (λ n. item_at n c) w ∙ sym i) (sym q))

-- ---- a turn
module _ (s : List ℕ) (c : Cursor) (b : Taken) where
  -- How reading ends where something is wrong.
  abbrev pub ends_at : ℕ → ℕ → Reading
  ends_at code at = record { code = code; item = item_at code c; position = at; numbers = b.numbers }

  -- What is wrong at the place ends reading, with its code, item and position.
  pub wrong_ends : {code at : ℕ} → Wrong s c b code at → turn s c b ≡ over (ends_at code at)
  unfolding turn taken judged
  wrong_ends {code} {at} (field f) =
      let (reason, w, e) = (refused_exactly s c code (item_at code c) at c).1 (f, refl, refl) in
      ap (taken c b) e ∙ ap (λ k. over (record { code = k; item = item_at code c; position = at; numbers = b.numbers })) w
  wrong_ends (x due l n) = ap (taken c b) (point_there s c due l) ∙ rw n
  wrong_ends (y due l u w n) = ap (taken c b) (point_there s c due l) ∙ rw (w, n)
  wrong_ends (unclosed due l u v p q d) = ap (taken c b) (point_there s c due l) ∙ rw (p, q, d)

  -- Where reading is over at the place, it has ended with the sheet, and tells no position, or something is wrong there.
  abbrev pub Ended : Reading → Type 0
  Ended r = ((r.code ≡ 0) × (r.position ≡ 0)) ⊎ (Wrong s c b r.code r.position × (r.item ≡ item_at r.code c))

  abbrev pub Over : Turn → Type 0
  Over (on d e) = Unit {0}
  Over (over r) = Ended r

  pub over_wrong : Over (turn s c b)
  unfolding turn taken judged
  over_wrong = by_case (λ a. Over (taken c b a)) s c (record {
    refused = λ reason at t f. inr (field f, member_named (code_of reason) c t);
    point = λ p l. go p l (coordinate_of (double_at c.little s c.at)) (coordinate_of (double_at c.little s (c.at + 8))) refl refl;
    ring = λ p r l n f. tt;
    end = λ due. (λ e. inl (refl, refl), λ l. inr (field (surplus due l), refl));
    geometry = λ p r t l little kind n k f. tt;
  })
    where
      go : PointDue c → c.at + 16 ≤ length s → (u v : Option ℕ) → coordinate_of (double_at c.little s c.at) ≡ u → coordinate_of (double_at c.little s (c.at + 8)) ≡ v → Over (judged c (after_point c) b u v)
      go p l None v e f = inr (x p l e, refl)
      go p l (Some m) None e f = inr (y p l m e f, refl)
      go p l (Some m) (Some n) e f = by_equal Over (differs c m n b) _ _ (λ d. inr (unclosed p l m n e f d, refl)) (λ d. tt)
