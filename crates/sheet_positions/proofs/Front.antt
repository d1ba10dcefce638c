-- The bytes before the first surplus one are read to the end, with the same numbers.
-- The idea: a step that leads on looks only at the bytes before the place that it leads to. Assumes nothing.
use mathlib.Core.Path.{◌≡◌, refl, sym, ◌∙◌, ap, subst}
use mathlib.Core.Bool.{Bool}
use mathlib.Core.List.{List}
use Prim.Native.Nat.{ℕ, ◌+◌, ◌≤◌}
use native.Mathlib.Omega.{arith}
use borrow.Author.Tests.{le-leb, le-ltb, eq-eqb}
use lib.Dec.{T, eqb}
use lib.ListN.{length, take, drop, length-drop, take-append-drop}
use lib.Seq.{length-take-le, take-append-le, drop-append-le, get_or-take}
use Rattle.whole.proofs.Tests.{by_equal}
use Rattle.lent.specs.Refusals.{code_of}
use Rattle.lent_little.specs.Ordered.{number_of, field, word_at, double_at}
use Rattle.sheet_coordinate.specs.Coordinate.{coordinate_of}
use Rattle.std.specs.Prelude.{Option, Some, None}
use Rattle.wkb.specs.declared.Cursor.{Cursor}
use Rattle.wkb.specs.declared.Step.{Step}
use Rattle.wkb.specs.declared.Step.TheVariants.{Geometry, Ring, Point, End, Refused}
use Rattle.wkb.specs.Steps.{geometry_at, ring_at, point_at, end_at, step_at}
use Rattle.wkb.specs.Faults.{PointDue, RingDue, EndDue, HeaderDue, order_at}
use Rattle.wkb.proofs.Cases.{named, by_case}
use Rattle.wkb.proofs.Due.{at_point, at_ring, at_end, at_header}
use Rattle.sheet.specs.Reading.{Taken, Turn, on, ended, differs, judged, taken, turn, reading_of}
use Rattle.sheet.proofs.Run.{Goes, turn_moved, step_moved, Moved, reading_turns}
use Rattle.sheet_positions.specs.Places.{Comes, begins, goes}
use Rattle.sheet_positions.specs.Faults.{Wrong, field as fault, x, y, unclosed, FaultIn}
use Rattle.sheet_positions.proofs.Steps.{refused_exactly}
use Rattle.sheet_positions.proofs.Exactly.{comes_reads, comes_inside, fault_ends}

module _ (s : List ℕ) (p : ℕ) (inside : p ≤ length s) where
  abbrev front : List ℕ
  front = take p s

  front_length : length front ≡ p
  front_length = length-take-le p s inside

  -- ---- a field before p stands in the front as it does in the bytes
  same_field : (at n : ℕ) → at + n ≤ p → field front at n ≡ field s at n
  same_field at n h =
      let f = front_length in
      sym (ap (λ l. take n (drop at l)) (sym (take-append-drop p s))
      ∙ ap (take n) (drop-append-le at front (drop p s) (omega arith))
      ∙ take-append-le n (drop at front) (drop p s) (omega (arith, length-drop at front)))

  same_word : (little : Bool) (at : ℕ) → at + 4 ≤ p → word_at little front at ≡ word_at little s at
  unfolding word_at
  same_word little at h = ap (number_of little) (same_field at 4 h)

  same_double : (little : Bool) (at : ℕ) → at + 8 ≤ p → double_at little front at ≡ double_at little s at
  unfolding double_at
  same_double little at h = rw (same_field at 8 h)

  -- ---- a step that leads on to a place in the front answers there what it answers in the bytes
  module _ (c : Cursor) where
    same_point : PointDue c → c.at + 16 ≤ p → step_at front c ≡ step_at s c
    unfolding point_at
    same_point due h =
        let f = front_length in
        at_point front c due
        ∙ rw (le-leb (c.at + 16) (length front) (omega arith), le-leb (c.at + 16) (length s) (omega arith), same_double c.little c.at (omega arith), same_double c.little (c.at + 8) (omega arith)) refl
        ∙ sym (at_point s c due)

    same_ring : RingDue c → c.at + 4 ≤ p → step_at front c ≡ step_at s c
    unfolding ring_at
    same_ring due h =
        let f = front_length in
        at_ring front c due
        ∙ rw (le-leb (c.at + 4) (length front) (omega arith), le-leb (c.at + 4) (length s) (omega arith), same_word c.little c.at h) refl
        ∙ sym (at_ring s c due)

    same_header : HeaderDue c → c.at + 9 ≤ p → step_at front c ≡ step_at s c
    unfolding geometry_at
    same_header due h =
        let f = front_length in
        let order : order_at front c ≡ order_at s c = get_or-take p s c.at 0 (omega arith) in
        let little : Bool = eqb (order_at s c) 1 in
        at_header front c due
        ∙ rw (
          le-leb (c.at + 1) (length front) (omega arith),
          le-leb (c.at + 5) (length front) (omega arith),
          le-leb (c.at + 9) (length front) (omega arith),
          le-leb (c.at + 1) (length s) (omega arith),
          le-leb (c.at + 5) (length s) (omega arith),
          le-leb (c.at + 9) (length s) (omega arith),
          order,
          same_word little (c.at + 1) (omega arith),
          same_word little (c.at + 5) (omega arith),
        )
        refl
        ∙ sym (at_header s c due)

    -- The step leads on to a place in the front.
    abbrev Next : Step → Type 0
    Next (Geometry kind n d) = d.at ≤ p
    Next (Ring n d) = d.at ≤ p
    Next (Point u v d) = d.at ≤ p
    Next (End d) = ⊥
    Next (Refused reason item at d) = ⊥

    same_step : Next (step_at s c) → step_at front c ≡ step_at s c
    same_step = by_case (λ a. Moved s c a → Next a → step_at front c ≡ step_at s c) s c (record {
      refused = λ reason at t f m n. absurd n;
      point = λ due l m n. same_point due (omega arith);
      ring = λ q r l n f m k. same_ring (q, r) (omega arith);
      end = λ due. (λ e m n. absurd n, λ l m n. absurd n);
      geometry = λ q r t l little kind n k f m o. same_header (q, r, t) (omega arith);
    }) (step_moved s c)

    -- So does a turn.
    module _ (b : Taken) (d : Cursor) (e : Taken) (l : d.at ≤ p) where
      next_judged : (c' : Cursor) (u v : Option ℕ) → judged c c' b u v ≡ on d e → c'.at ≤ p
      unfolding judged
      next_judged c' None v q = absurd (let z : ◌≡◌ {A = ℕ} 0 1 = cc q in omega arith)
      next_judged c' (Some m) None q = absurd (let z : ◌≡◌ {A = ℕ} 0 1 = cc q in omega arith)
      next_judged c' (Some m) (Some n) r =
          by_equal (λ (t : Turn). t ≡ on d e → c'.at ≤ p) (differs c m n b) _ _ (λ f q. absurd (let z : ◌≡◌ {A = ℕ} 0 1 = cc q in omega arith))
          (λ f q. let w : c' ≡ d = cc q in subst (λ (k : Cursor). k.at ≤ p) (sym w) l)
          r

      next : (a : Step) → taken c b a ≡ on d e → Next a
      unfolding taken
      next (Geometry kind n c') q = let w : c' ≡ d = cc q in subst (λ (k : Cursor). k.at ≤ p) (sym w) l
      next (Ring n c') q = let w : c' ≡ d = cc q in subst (λ (k : Cursor). k.at ≤ p) (sym w) l
      next (Point u v c') q = next_judged c' (coordinate_of u) (coordinate_of v) q
      next (End c') q = let z : ◌≡◌ {A = ℕ} 0 1 = cc q in omega arith
      next (Refused reason item at c') q = let z : ◌≡◌ {A = ℕ} 0 1 = cc q in omega arith

      same_turn : turn s c b ≡ on d e → turn front c b ≡ on d e
      unfolding turn
      same_turn q = ap (taken c b) (same_step (next (step_at s c) q)) ∙ q

  -- ---- the places in the front that reading the bytes comes to, reading the front comes to
  comes_in_front : {limit : ℕ} {c : Cursor} {b : Taken} → Comes limit s c b → c.at ≤ p → Comes limit front c b
  comes_in_front begins h = begins
  comes_in_front (goes {c} {d} {b} {e} k q) h =
      goes (comes_in_front k (let m = subst (Goes s c) q (turn_moved s c b) in omega arith)) (same_turn c b d e h q)

-- ---- bytes behind the sheet
-- Only they have code 7, and they have it where nothing is to come.
module _ (s : List ℕ) (c : Cursor) where
  abbrev Seven : Step → Type 0
  Seven (Geometry kind n d) = Unit {0}
  Seven (Ring n d) = Unit {0}
  Seven (Point u v d) = Unit {0}
  Seven (End d) = Unit {0}
  Seven (Refused reason item at d) = code_of reason ≡ 7 → EndDue c × (at ≡ c.at)

  step_seven : Seven (step_at s c)
  step_seven = by_case Seven s c (record {
    refused = λ reason at t f e. absurd (subst (λ k. T (named k)) e t);
    point = λ p l. tt;
    ring = λ p r l n f. tt;
    end = λ due. (λ e. tt, λ l e. (due, refl));
    geometry = λ p r t l little kind n k f. tt;
  })

  wrong_seven : {b : Taken} {code at : ℕ} → Wrong s c b code at → code ≡ 7 → EndDue c × (at ≡ c.at)
  wrong_seven {b} {code} {at} (fault f) e = let (reason, w, q) = (refused_exactly s c code _ at c).1 (f, refl, refl) in subst Seven q step_seven (w ∙ e)
  wrong_seven (x due l n) e = absurd (omega arith)
  wrong_seven (y due l u w n) e = absurd (omega arith)
  wrong_seven (unclosed due l u v p q d) e = absurd (omega arith)

pub front_read : (limit : ℕ) (s : List ℕ) (item position : ℕ) → FaultIn limit s 7 item position
    → ((reading_of limit (take position s)).code ≡ 0) × ((reading_of limit (take position s)).numbers ≡ (reading_of limit s).numbers)
unfolding end_at taken turn
front_read limit s item position f =
    let (due, at) = wrong_seven s f.place f.wrong refl in
    let inside : position ≤ length s = omega (arith, comes_inside limit s f.comes) in
    let whole = length-take-le position s inside in
    let c = f.place in
    let b = f.taken in
    let there : Comes limit (take position s) c b = comes_in_front s position inside f.comes (omega arith) in
    let stop : step_at (take position s) c ≡ End c = at_end (take position s) c due ∙ rw (le-ltb c.at (length (take position s)) (omega arith), eq-eqb c.at (length (take position s)) (omega arith)) in
    let r : reading_of limit (take position s) ≡ ended (End c) b = comes_reads limit (take position s) there ∙ reading_turns (take position s) c b ∙ rw stop in
    (ap (λ z. z.code) r, ap (λ z. z.numbers) r ∙ sym (ap (λ z. z.numbers) (fault_ends limit s f)))
