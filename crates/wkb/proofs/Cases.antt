-- What a step can answer, case by case, so that a law of all steps is said of each answer and the tests are gone through once.
-- The idea: the definition is a chain of tests, and each test decides between a refusal and what follows. Assumes nothing.
use mathlib.Core.Path.{◌≡◌, sym, ◌∙◌, subst}
use mathlib.Core.Bool.{Bool, true, false, not, ◌&&◌, ◌||◌}
use mathlib.Core.List.{List}
use Prim.Native.Nat.{ℕ, ◌+◌, ◌≤◌, ◌<◌}
use native.Mathlib.Omega.{arith}
use borrow.Author.Tests.{ltb-true, ltb-false, leb-true, leb-false, eqb-true, eqb-false}
use lib.Dec.{T, leb, ltb, eqb}
use lib.ListN.{length}
use Rattle.whole.proofs.Tests.{by_equal, by_cond}
use Rattle.std.specs.Prelude.{Option, Some, None}
use Rattle.lent.specs.declared.Reason.{Reason}
use Rattle.lent.specs.declared.Reason.TheVariants.{Short, ByteOrder, Kind, Count, Behind, Deep}
use Rattle.lent.specs.Refusals.{code_of}
use Rattle.lent.proofs.Refusals.{no_success}
use Rattle.lent_little.specs.Ordered.{remains, word_at, double_at}
use Rattle.wkb_kinds.specs.declared.Slot.{Slot}
use Rattle.wkb_kinds.specs.declared.Slot.TheVariants.{Sheet, Table, Piece, Part, Member}
use Rattle.wkb.specs.declared.Cursor.{Cursor}
use Rattle.wkb.specs.declared.Step.{Step}
use Rattle.wkb.specs.declared.Step.TheVariants.{Geometry, Ring, Point, End, Refused}
use Rattle.wkb.specs.Faults.{EndDue, HeaderDue, order_at, type_at, count_at, Ordered, Typed, Fault, point_cut, ring_cut, ring_count, past, order_cut, order, type_cut, type, count_cut, count}
use Rattle.wkb.proofs.Reasons.{by_fault, allowed_code, fault_code}
use Rattle.wkb.specs.Steps.{slot_of, complete, crowded, deep, kind_reason, kind_fault, count_fits, opened, refusal, ring_fits, with_points, after_point, geometry_at, ring_at, point_at, end_at, step_at}

-- A test that is passed.
pub passed : {b : Bool} → b ≡ true → T b
passed e = subst T (sym e) tt

-- A code that comes with the member it was found in.
abbrev pub named : ℕ → Bool
named code = not (eqb code 0 || eqb code 7) && leb code 8

-- What is wrong with a type comes with its member.
abbrev NamedFault : Option Reason → Type 0
NamedFault None = Unit {0}
NamedFault (Some reason) = T (named (code_of reason))

fault_named : (slot : Slot) (c : Cursor) (kind : ℕ) → NamedFault (kind_reason slot c kind)
unfolding crowded deep
fault_named slot c kind = go slot
  where
    full : NamedFault (crowded c)
    full = by_cond NamedFault (ltb c.polygons 64) None (Some Count) (λ t. tt) tt

    go : (slot : Slot) → NamedFault (kind_reason slot c kind)
    go Sheet = by_cond NamedFault (eqb kind 7) None (Some Kind) (λ t. tt) tt
    go Table = by_cond NamedFault (eqb kind 16) None (Some Kind) (λ t. tt) tt
    go Piece = by_cond NamedFault (eqb kind 17 || eqb kind 3) None (Some Kind) (λ t. tt) tt
    go Part = by_cond NamedFault (eqb kind 3) (crowded c) (Some Kind) (λ t. full) tt
    go Member =
        by_cond NamedFault (eqb kind 3) (crowded c) _ (λ t. full)
        (by_cond NamedFault (eqb kind 6) None _ (λ t. tt) (by_cond NamedFault (eqb kind 7) (deep c) (Some Kind) (λ t. by_cond NamedFault (eqb c.fourth 0) None (Some Deep) (λ t. tt) tt) tt))

-- What holds of each answer at c: a refusal for what is at fault there, a point, a ring; where neither of these is to come the end, bytes that are left,
-- or a geometry.
pub record Cases (P : Step → Type 0) (s : List ℕ) (c : Cursor) : Type 0 where
  pub refused : (reason : Reason) (field : ℕ) → T (named (code_of reason)) → Fault s c (code_of reason) field → P (refusal reason field c)
  pub point : 0 < c.points → c.at + 16 ≤ length s → P (Point (double_at c.little s c.at) (double_at c.little s (c.at + 8)) (after_point c))
  pub ring : c.points ≡ 0 → 0 < c.rings → c.at + 4 ≤ length s → (n : ℕ) → ring_fits c n ≡ true → P (Ring n (with_points n c))
  pub end : EndDue c → (c.at ≡ length s → P (End c)) × (c.at < length s → P (Refused Behind 0 c.at c))
  pub geometry : c.points ≡ 0 → c.rings ≡ 0 → (not (eqb c.member 0) && complete c) ≡ false → c.at + 9 ≤ length s → (little : Bool) (kind n : ℕ)
      → kind_fault (slot_of c) c kind ≡ 0 → count_fits c.limit (slot_of c) n ≡ true → P (Geometry kind n (opened (slot_of c) c little kind n))

module _ (P : Step → Type 0) (s : List ℕ) (c : Cursor) (h : Cases P s c) where
  geometry_case : c.points ≡ 0 → c.rings ≡ 0 → (not (eqb c.member 0) && complete c) ≡ false → P (geometry_at s c)
  unfolding geometry_at
  geometry_case p r more =
      by_equal P (remains s c.at 1) _ _ (λ one.
      by_equal P (ltb (order_at s c) 2) _ _ (λ two.
      by_equal P (remains s c.at 5) _ _ (λ five.
      by_fault P (kind_reason (slot_of c) c (type_at s c)) _ _ _ (λ k. let allowed = allowed_code (slot_of c) c (type_at s c) k in
      by_equal P (remains s c.at 9) _ _ (λ nine.
      by_equal P (count_fits c.limit (slot_of c) (count_at s c)) _ _ (λ fits.
      h.geometry p r more (fits_in 9 nine) (eqb (order_at s c) 1) (type_at s c) (count_at s c) allowed fits)
      (λ f. h.refused Count _ tt (count due (typed one two five allowed) (fits_in 9 nine) f)))
      (λ f. h.refused Short _ tt (count_cut due (typed one two five allowed) (cut_at 9 f))))
      (λ reason e. let v = fault_code (slot_of c) c (type_at s c) reason e in
      h.refused reason _ (subst NamedFault e (fault_named (slot_of c) c (type_at s c))) (subst (λ k. Fault s c k (c.at + 1)) v (type due (ordered one two) (fits_in 5 five) (λ z. no_success reason (sym v ∙ z))))))
      (λ f. h.refused Short _ tt (type_cut due (ordered one two) (cut_at 5 f))))
      (λ f. h.refused ByteOrder _ tt (order due (fits_in 1 one) (ltb-false (order_at s c) 2 f))))
      (λ f. h.refused Short _ tt (order_cut due (cut_at 1 f)))
    where
      due : HeaderDue c
      due = (p, r, more)

      fits_in : (n : ℕ) → remains s c.at n ≡ true → c.at + n ≤ length s
      fits_in n e = leb-true (c.at + n) (length s) e

      cut_at : (n : ℕ) → remains s c.at n ≡ false → length s < c.at + n
      cut_at n e = leb-false (c.at + n) (length s) e

      ordered : remains s c.at 1 ≡ true → ltb (order_at s c) 2 ≡ true → Ordered s c
      ordered one two = (fits_in 1 one, ltb-true (order_at s c) 2 two)

      typed : remains s c.at 1 ≡ true → ltb (order_at s c) 2 ≡ true → remains s c.at 5 ≡ true → kind_fault (slot_of c) c (type_at s c) ≡ 0 → Typed s c
      typed one two five allowed = (ordered one two, fits_in 5 five, allowed)

  lt_of : length s ≤ c.at → (c.at ≡ length s → ⊥) → length s < c.at
  lt_of l n = omega (arith, n)

  pub by_case : P (step_at s c)
  unfolding step_at point_at ring_at end_at
  by_case =
      by_equal P (ltb 0 c.points) _ _ (λ p.
      by_equal P (remains s c.at 16) _ _ (λ e. h.point (ltb-true 0 c.points p) (leb-true (c.at + 16) (length s) e))
      (λ e. h.refused Short _ tt (point_cut (ltb-true 0 c.points p) (leb-false (c.at + 16) (length s) e)))) (λ q.
      let p : c.points ≡ 0 = let z = ltb-false 0 c.points q in omega arith in
      by_equal P (ltb 0 c.rings) _ _ (λ r.
      by_equal P (remains s c.at 4) _ _ (λ e.
      by_equal P (ring_fits c (word_at c.little s c.at)) _ _ (λ f.
      h.ring p (ltb-true 0 c.rings r) (leb-true (c.at + 4) (length s) e) (word_at c.little s c.at) f) (λ f. h.refused Count _ tt (ring_count (p, ltb-true 0 c.rings r) (leb-true (c.at + 4) (length s) e) f)))
      (λ e. h.refused Short _ tt (ring_cut (p, ltb-true 0 c.rings r) (leb-false (c.at + 4) (length s) e)))) (λ q.
      let r : c.rings ≡ 0 = let z = ltb-false 0 c.rings q in omega arith in
      by_equal P (not (eqb c.member 0) && complete c) _ _ (λ t.
      by_equal P (ltb c.at (length s)) _ _ (λ l. (h.end (p, r, t)).1 (ltb-true c.at (length s) l)) (λ l.
      by_equal P (eqb c.at (length s)) _ _ (λ e. (h.end (p, r, t)).0 (eqb-true c.at (length s) e)) (λ e.
      h.refused Short _ tt (past (p, r, t) (let le = ltb-false c.at (length s) l in let ne = eqb-false c.at (length s) e in lt_of le ne)))))
      (geometry_case p r)))
