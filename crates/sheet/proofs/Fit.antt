-- A sheet has at most 16385 numbers and as many as it may have members: 6146 of the table, one for each member behind it, and five halves for
-- each of 4096 points. The bound of `Sized` is kept by each turn, and reading is over with code 0 only where no ring is to come. Assumes nothing.
use mathlib.Core.Path.{◌≡◌, refl, ◌∙◌, ap, subst}
use mathlib.Core.Bool.{Bool, true, false, not, cond, ◌&&◌}
use mathlib.Core.List.{List, [], ◌∷◌, ◌++◌}
use Prim.Native.Nat.{ℕ, zero, suc, ◌+◌, ◌*◌, ◌≤◌, ◌<◌}
use native.Mathlib.Omega.{arith}
use lib.Dec.{T, leb, ltb, eqb, leb→le, ltb→lt, nltb→le, eqb→eq, T_not, not_T}
use lib.ListN.{length, set, length-set}
use Rattle.whole.proofs.Tests.{by_cond, by_test}
use Rattle.sheet_coordinate.specs.Coordinate.{coordinate_of}
use Rattle.std.specs.Prelude.{Option, Some, None}
use Rattle.whole.proofs.Sums.{and_left, and_right, and_both}
use Rattle.lent.proofs.Refusals.{no_success}
use Rattle.wkb.specs.declared.Cursor.{Cursor}
use Rattle.wkb_kinds.specs.declared.Slot.{Slot}
use Rattle.wkb_kinds.specs.declared.Slot.TheVariants.{Sheet, Table, Piece, Part, Member}
use Rattle.wkb.specs.declared.Step.{Step}
use Rattle.lent_little.specs.Ordered.{double_at}
use Rattle.wkb.specs.Steps.{start, slot_of, complete, count_fits, popped, with_rings, with_parts, with_sheet, fewer_parts, opened, after_point}
use Rattle.wkb.proofs.Steps.{pops, members_opened}
use Rattle.wkb.proofs.Cases.{passed, by_case}
use Rattle.sheet.specs.Reading.{Taken, Reading, Turn, on, over, held, begin, polygon, opening, noted, judged, taken, turn, run, reading_of, nothing}
use Rattle.sheet.proofs.Sized.{same, other, is_yes, is_no, sheet, first, table, after, Sized, at_most, one_more, point_sized, ring_sized}

-- ---- a geometry's header
-- What is known of a place by which geometry stands there.
abbrev At : Cursor → Slot → Type 0
At c Sheet = c.member ≡ 0
At c Table = (c.member ≡ 1) × (c.parts ≡ 0)
At c Piece = (c.member ≡ 1) × (0 < c.parts)
At c Part = 2 ≤ c.member
At c Member = 2 ≤ c.member

slot_at_lem : (c : Cursor) → At c (slot_of c)
unfolding slot_of
slot_at_lem c =
    by_test (At c) (eqb c.member 0) _ _ (λ t. eqb→eq c.member 0 t) (λ n.
    by_test (At c) (eqb c.member 1) _ _ (λ t.
    let m = eqb→eq c.member 1 t in
    by_test (At c) (ltb 0 c.parts) _ _ (λ p. (m, ltb→lt 0 c.parts p)) (λ p. (m, omega (arith, nltb→le 0 c.parts p))))
    (λ k.
    let m : 2 ≤ c.member = omega (arith, other c.member 0 tt n, other c.member 1 tt k) in
    by_cond (At c) (ltb 0 c.parts) _ _ (λ p. m) m))

-- A member of which nothing is left is complete.
nothing_left : (c : Cursor) → T (not c.header) → c.second + c.third + c.fourth ≡ 0 → c.parts ≡ 0 → c.rings ≡ 0 → c.points ≡ 0 → T (complete c)
unfolding complete
nothing_left c h s p r q =
    and_both (not c.header && eqb c.second 0 && eqb c.third 0 && eqb c.fourth 0 && eqb c.parts 0 && eqb c.rings 0) (eqb c.points 0)
    (and_both (not c.header && eqb c.second 0 && eqb c.third 0 && eqb c.fourth 0 && eqb c.parts 0) (eqb c.rings 0)
    (and_both (not c.header && eqb c.second 0 && eqb c.third 0 && eqb c.fourth 0) (eqb c.parts 0)
    (and_both (not c.header && eqb c.second 0 && eqb c.third 0) (eqb c.fourth 0)
    (and_both (not c.header && eqb c.second 0) (eqb c.third 0)
    (and_both (not c.header) (eqb c.second 0) h (same c.second 0 tt (omega arith))) (same c.third 0 tt (omega arith))) (same c.fourth 0 tt (omega arith)))
    (same c.parts 0 tt p)) (same c.rings 0 tt r)) (same c.points 0 tt q)

-- A polygon adds one number.
polygon_adds : (c : Cursor) (n : ℕ) (b : Taken) → length (polygon c n b).numbers ≡ length b.numbers + 1
polygon_adds c n b = omega (arith, one_more (set b.numbers b.mark (held c.polygons)) (held n), length-set b.numbers b.mark (held c.polygons))

module _ (c : Cursor) (little : Bool) (kind n : ℕ) (p : c.points ≡ 0) (r : c.rings ≡ 0) where
  -- The member's own header adds one number, and a polygon another.
  member_stage : {limit : ℕ} (f : ℕ) → 2 ≤ c.member → 1 ≤ n → Sized limit c f → Sized limit (opened Member c little kind n) (f + cond c.header 1 0 + cond (eqb kind 3) 1 0)
  unfolding opened with_rings with_parts
  member_stage {limit} f m l h =
      let q = pops c in
      let shut : ◌≡◌ {A = ℕ} (cond (popped c).header 1 0) 0 = rw q.header in
      let o = h.members in
      let w = h.total in
      let i : (popped c).limit ≡ limit = q.limit ∙ h.is_limit in
      let x : 2 * f + 2 * cond c.header 1 0 + 2 ≤ 12292 + 2 * c.member + 5 * c.total = elim h.stage [ sheet a s e ↦ absurd (omega arith) | first a s e k ↦ absurd (omega arith) | table a s e k ↦ absurd (omega arith) | after a e ↦ omega arith ] in
      by_test (λ (d : Cursor). Sized limit d (f + cond c.header 1 0 + cond (eqb kind 3) 1 0)) (eqb kind 3) _ _ (λ t.
      let y = is_yes {A = ℕ} (eqb kind 3) 1 0 t in
      record { is_limit = i; members = omega arith; total = omega arith; stage = after (omega arith) (omega arith) }) (λ t.
      let y = is_no {A = ℕ} (eqb kind 3) 1 0 t in
      by_cond (λ (d : Cursor). Sized limit d (f + cond c.header 1 0 + cond (eqb kind 3) 1 0)) (eqb kind 6) _ _ (λ z.
      record { is_limit = i; members = omega arith; total = omega arith; stage = after (omega arith) (omega arith) })
      (members_opened (λ (d : Cursor). Sized limit d (f + cond c.header 1 0 + cond (eqb kind 3) 1 0)) c n (popped c)
      (record { is_limit = i; members = omega arith; total = omega arith; stage = after (omega arith) (omega arith) })
      (record { is_limit = i; members = omega arith; total = omega arith; stage = after (omega arith) (omega arith) })
      (record { is_limit = i; members = omega arith; total = omega arith; stage = after (omega arith) (omega arith) })))

  -- Each geometry's header keeps the bound. The table has one header, since it is complete where nothing of it is left.
  opened_sized : {limit : ℕ} (slot : Slot) (b : Taken) → At c slot → T (not (not (eqb c.member 0) && complete c)) → T (count_fits c.limit slot n) → Sized limit c (length b.numbers)
      → Sized limit (opened slot c little kind n) (length (opening slot c (opened slot c little kind n) kind n b).numbers)
  unfolding opened opening with_rings with_parts with_sheet fewer_parts count_fits popped
  opened_sized Sheet b m i t h =
      let l = leb→le n c.limit (and_right (leb 1 n) (leb n c.limit) t) in
      let k = leb→le 1 n (and_left (leb 1 n) (leb n c.limit) t) in
      let i = h.is_limit in
      record {
        is_limit = h.is_limit;
        members = omega arith;
        total = h.total;
        stage = elim h.stage [ sheet a s e ↦ first refl s e tt | first a s e k ↦ absurd (omega arith) | table a s e k ↦ absurd (omega arith) | after a e ↦ absurd (omega arith) ];
      }
  opened_sized {limit} Table b m i t h =
      let l = leb→le n 1024 (and_right (leb 2 n) (leb n 1024) t) in
      let o = one_more b.numbers (held n) in
      by_test (λ (d : Cursor). Sized limit (with_parts n d) (length (b.numbers ++ held n ∷ []))) c.header _ _ (λ y.
      record {
        is_limit = h.is_limit;
        members = h.members;
        total = h.total;
        stage = elim h.stage [ sheet a s e ↦ absurd (omega arith) | first a s e k ↦ table a s (omega arith) tt | table a s e k ↦ absurd (T_not c.header k y) | after a e ↦ absurd (omega arith) ];
      }) (λ y. absurd (elim h.stage [
        | sheet a s e ↦ omega arith
        | first a s e k ↦ T_not c.header y k
        | table a s e k ↦
            T_not (not (eqb c.member 0) && complete c) i
            (and_both (not (eqb c.member 0)) (complete c) (not_T (eqb c.member 0) (λ z. omega (arith, eqb→eq c.member 0 z))) (nothing_left c y s m.1 r p))
        | after a e ↦ omega arith
      ]))
  opened_sized Piece b m i t h =
      let l = eqb→eq n 1 t in
      record {
        is_limit = h.is_limit;
        members = h.members;
        total = h.total;
        stage = elim h.stage [ sheet a s e ↦ absurd (omega arith) | first a s e k ↦ absurd (omega arith) | table a s e k ↦ table a s (omega arith) k | after a e ↦ absurd (omega arith) ];
      }
  opened_sized Part b m i t h =
      let l = leb→le 1 n (and_left (leb 1 n) (leb n 64) t) in
      let q = polygon_adds (opened Part c little kind n) n b in
      record {
        is_limit = h.is_limit;
        members = h.members;
        total = h.total;
        stage = elim h.stage [ sheet a s e ↦ absurd (omega arith) | first a s e k ↦ absurd (omega arith) | table a s e k ↦ absurd (omega arith) | after a e ↦ after a (omega arith) ];
      }
  opened_sized {limit} Member b m i t h =
      subst (Sized limit (opened Member c little kind n)) (grown c.header (eqb kind 3)) (member_stage (length b.numbers) m (leb→le 1 n (and_left (leb 1 n) (leb n 64) t)) h)
    where
      own : (x : Bool) → length b.numbers + cond x 1 0 ≡ length (cond x (begin b) b).numbers
      own true = omega (arith, one_more b.numbers (held 0))
      own false = omega arith

      grown : (x y : Bool) → length b.numbers + cond x 1 0 + cond y 1 0 ≡ length (cond y (polygon (opened Member c little kind n) n (cond x (begin b) b)) (cond x (begin b) b)).numbers
      grown x true = omega (arith, own x, polygon_adds (opened Member c little kind n) n (cond x (begin b) b))
      grown x false = omega (arith, own x)

-- ---- a turn
-- Reading goes on with the bound, or is over within it.
abbrev Good : ℕ → Turn → Type 0
Good limit (on c b) = Sized limit c (length b.numbers)
Good limit (over r) = r.code ≡ 0 → length r.numbers ≤ 16385 + limit

-- A turn with this answer of a step does so.
abbrev Led : ℕ → Cursor → Taken → Step → Type 0
Led limit c b a = Good limit (taken c b a)

module _ {limit : ℕ} (s : List ℕ) (c : Cursor) (b : Taken) (h : Sized limit c (length b.numbers)) where
  turn_good : Good limit (turn s c b)
  unfolding turn taken judged
  turn_good = by_case (Led limit c b) s c (record {
    refused = λ reason field t f e. absurd (no_success reason e);
    point = λ p l. go p (coordinate_of (double_at c.little s c.at)) (coordinate_of (double_at c.little s (c.at + 8)));
    ring = λ p r l n f. ring_sized c n b p r (passed f) h;
    end = λ due. (λ l e. at_most c (length b.numbers) due.1 h, λ l e. absurd (omega arith));
    geometry = λ p r t l little kind n k f. opened_sized c little kind n p r (slot_of c) b (slot_at_lem c) (passed (ap not t)) (passed f) h;
  })
    where
      go : 0 < c.points → (x y : Option ℕ) → Good limit (judged c (after_point c) b x y)
      go p None y = λ e. absurd (omega arith)
      go p (Some x) None = λ e. absurd (omega arith)
      go p (Some x) (Some y) =
          by_cond (Good limit) (eqb c.points 1 && not (eqb x (noted x y b).x && eqb y (noted x y b).y)) _ _ (λ t e. absurd (omega arith)) (point_sized c x y b p h)

-- ---- reading
-- Reading from a place with the bound, by any number of steps.
run_fits : {limit : ℕ} (n : ℕ) (s : List ℕ) (c : Cursor) (b : Taken) → Sized limit c (length b.numbers) → (run n s c b).code ≡ 0 → length (run n s c b).numbers ≤ 16385 + limit
unfolding run
run_fits zero s c b h = λ e. absurd (omega arith)
run_fits {limit} (suc n) s c b h = go (turn s c b) (turn_good s c b h) (λ c' b'. run_fits n s c' b')
  where
    go : (t : Turn) → Good limit t → ((c' : Cursor) (b' : Taken) → Sized limit c' (length b'.numbers) → (run n s c' b').code ≡ 0 → length (run n s c' b').numbers ≤ 16385 + limit)
        → (let r : Reading = elim t [ on c' b' ↦ run n s c' b' | over r ↦ r ] in r.code ≡ 0 → length r.numbers ≤ 16385 + limit)
    go (on c' b') k f = f c' b' k
    go (over r) k f = k

pub numbers_fit : (limit : ℕ) (s : List ℕ) → (reading_of limit s).code ≡ 0 → length (reading_of limit s).numbers ≤ 16385 + limit
numbers_fit limit s = run_fits (suc (length s)) s (start limit) nothing (record { is_limit = refl; members = omega arith; total = omega arith; stage = sheet refl refl refl })
