-- How many numbers are taken at a place, at most. Each triangle of the table takes six. After the table a member takes one, a point two, and
-- a ring and its polygon take one each, which the ring's points pay for with half a number each, as they are four or more; a polygon
-- borrows its own until its first ring comes. Each point and each ring's count keep this bound. Assumes nothing.
use mathlib.Core.Path.{◌≡◌, refl, sym, subst}
use mathlib.Core.Bool.{Bool, true, false, not, cond, ◌&&◌}
use mathlib.Core.List.{List, [], ◌∷◌, ◌++◌}
use Prim.Native.Nat.{ℕ, ◌+◌, ◌-◌, ◌*◌, ◌≤◌, ◌<◌, min}
use native.Mathlib.Omega.{arith}
use lib.Dec.{T, leb, ltb, eqb, leb→le, ltb→lt, nltb→le, eqb→eq, T_not}
use lib.ListN.{length, length-append}
use Rattle.whole.proofs.Tests.{by_cond, by_test}
use Rattle.whole.proofs.Sums.{and_left, and_right, and_both}
use Rattle.wkb.specs.declared.Cursor.{Cursor}
use Rattle.wkb.specs.Steps.{complete, renewed, up_to, ring_fits, with_points, after_point}
use Rattle.sheet.specs.Reading.{Taken, held, push, ringing, noted, last_of_table, pointing}

-- ---- tests
-- Either way the test goes; and what a choice is then.
split : (b : Bool) {G : Type 0} → (T b → G) → (T (not b) → G) → G
split true f g = f tt
split false f g = g tt

pub is_yes : {A : Type 0} (b : Bool) (x y : A) → T b → cond b x y ≡ x
is_yes true x y t = refl
is_yes false x y t = absurd t

pub is_no : {A : Type 0} (b : Bool) (x y : A) → T (not b) → cond b x y ≡ y
is_no true x y t = absurd t
is_no false x y t = refl

-- A test of a number against a given one, from what the number is and to what it is not.
pub same : (m k : ℕ) → T (eqb k k) → m ≡ k → T (eqb m k)
same m k t e = subst (λ (z : ℕ). T (eqb z k)) (sym e) t

pub other : (m k : ℕ) → T (eqb k k) → T (not (eqb m k)) → m ≡ k → ⊥
other m k t n e = T_not (eqb m k) n (same m k t e)

-- What the tests of a complete member and of the table's last point say.
no_points : (c : Cursor) → T (complete c) → c.points ≡ 0
unfolding complete
no_points c t = eqb→eq c.points 0 (and_right (not c.header && eqb c.second 0 && eqb c.third 0 && eqb c.fourth 0 && eqb c.parts 0 && eqb c.rings 0) (eqb c.points 0) t)

last_of : (c : Cursor) → T (last_of_table c) → (c.member ≡ 1) × (c.parts ≡ 0) × (c.rings ≡ 0) × (c.points ≡ 1)
last_of c t =
    let u = and_left (eqb c.member 1 && eqb c.parts 0 && eqb c.rings 0) (eqb c.points 1) t in
    let v = and_left (eqb c.member 1 && eqb c.parts 0) (eqb c.rings 0) u in (
      eqb→eq c.member 1 (and_left (eqb c.member 1) (eqb c.parts 0) v),
      eqb→eq c.parts 0 (and_right (eqb c.member 1) (eqb c.parts 0) v),
      eqb→eq c.rings 0 (and_right (eqb c.member 1 && eqb c.parts 0) (eqb c.rings 0) u),
      eqb→eq c.points 1 (and_right (eqb c.member 1 && eqb c.parts 0 && eqb c.rings 0) (eqb c.points 1) t),
    )

-- ---- the bound
-- f numbers are taken at c: none before the sheet's header and before the table's. In the table each piece or ring to come will take
-- six, an open ring two for each point but its last, and the end of the table one. After it there is room for two numbers for each open
-- point, and for one for the member, if its header is to come; here the numbers are counted twice.
pub data Stage (c : Cursor) (f : ℕ) : Type 0 where
  sheet : c.member ≡ 0 → c.second + c.third + c.fourth ≡ 0 → f + c.parts + c.rings + c.points ≡ 0 → Stage c f
  first : c.member ≡ 1 → c.second + c.third + c.fourth ≡ 0 → f + c.parts + c.rings + c.points ≡ 0 → T c.header → Stage c f
  table : c.member ≡ 1 → c.second + c.third + c.fourth ≡ 0 → f + 6 * c.parts + 6 * c.rings + 2 * (c.points - 1) + min 1 (c.parts + c.rings + c.points) ≤ 6146 → T (not c.header) → Stage c f
  after : 2 ≤ c.member → 2 * f + 4 * c.points + 2 * cond c.header 1 0 + 2 ≤ 12292 + 2 * c.member + 5 * c.total + 2 * min 1 c.rings → Stage c f

-- With that, at most so many members and 4096 points.
pub record Sized (limit : ℕ) (c : Cursor) (f : ℕ) : Type 0 where
  pub is_limit : c.limit ≡ limit
  pub members : c.member + c.members ≤ limit
  pub total : c.total ≤ 4096
  pub stage : Stage c f

-- Where no ring is to come the numbers are no more than those of the largest sheet.
pub at_most : {limit : ℕ} (c : Cursor) (f : ℕ) → c.rings ≡ 0 → Sized limit c f → f ≤ 16385 + limit
at_most c f r h =
    let m = h.members in
    let t = h.total in
    elim h.stage [ sheet a z e ↦ omega arith | first a z e k ↦ omega arith | table a z e k ↦ omega arith | after a e ↦ omega arith ]

-- One number more.
pub one_more : (l : List ℕ) (v : ℕ) → length (l ++ v ∷ []) ≡ length l + 1
one_more l v = length-append l (v ∷ [])

-- ---- a point
-- The next member begins with the bound of the one that is complete.
renewed_sized : {limit : ℕ} (c : Cursor) (f : ℕ) → Sized limit c f → Sized limit (renewed c) f
unfolding renewed
renewed_sized {limit} c f h =
    by_cond (λ (d : Cursor). Sized limit d f) (complete c && ltb 0 c.members) _ c (λ t.
    let z = no_points c (and_left (complete c) (ltb 0 c.members) t) in
    let l = ltb→lt 0 c.members (and_right (complete c) (ltb 0 c.members) t) in
    let m = h.members in
    let i = h.is_limit in
    let u : up_to c.limit c.member ≡ c.member + 1 = by_test (λ (k : ℕ). k ≡ c.member + 1) (ltb c.member c.limit) _ _ (λ t. refl) (λ n. absurd (omega (arith, nltb→le c.member c.limit n))) in
    record {
      is_limit = h.is_limit;
      members = omega arith;
      total = h.total;
      stage = elim h.stage [
        | sheet a s e ↦ first (omega arith) s e tt
        | first a s e k ↦ after (omega arith) (omega arith)
        | table a s e k ↦ after (omega arith) (omega arith)
        | after a e ↦ after (omega arith) (omega arith)
      ];
    }) h

-- The numbers that a point adds: two, or none at a triangle's last point; and one at the last point of the table.
module _ (c : Cursor) where
  abbrev closes : Bool
  closes = eqb c.member 1 && eqb c.points 1

  point_stage : {limit : ℕ} (f : ℕ) → 0 < c.points → Sized limit c f → Sized limit (after_point c) (f + cond closes 0 2 + cond (last_of_table c) 1 0)
  unfolding after_point
  point_stage f l h = renewed_sized _ _ (record {
    is_limit = h.is_limit;
    members = h.members;
    total = h.total;
    stage = elim h.stage [
      | sheet a s e ↦ absurd (omega arith)
      | first a s e k ↦ absurd (omega arith)
      | table a s e k ↦
          split closes (λ t.
          let p = eqb→eq c.points 1 (and_right (eqb c.member 1) (eqb c.points 1) t) in
          let u = is_yes {A = ℕ} closes 0 2 t in
          split (last_of_table c) (λ v. let w = last_of c v in let x = is_yes {A = ℕ} (last_of_table c) 1 0 v in table a s (omega arith) k) (λ v. let x = is_no {A = ℕ} (last_of_table c) 1 0 v in table a s (omega arith) k))
          (λ n.
          let u = is_no {A = ℕ} closes 0 2 n in
          let p : c.points ≡ 1 → ⊥ = λ p. T_not closes n (and_both (eqb c.member 1) (eqb c.points 1) (same c.member 1 tt a) (same c.points 1 tt p)) in
          let x = by_cond (λ (k : ℕ). k ≡ 0) (last_of_table c) 1 0 (λ v. absurd (p (last_of c v).3)) refl in
          table a s (omega arith) k)
      | after a e ↦
          let u = by_cond (λ (k : ℕ). k ≤ 2) closes 0 2 (λ t. omega arith) (omega arith) in
          let x = by_cond (λ (k : ℕ). k ≡ 0) (last_of_table c) 1 0 (λ v. absurd (let w = last_of c v in omega arith)) refl in
          after a (omega arith)
    ];
  })

  pub point_sized : {limit : ℕ} (x y : ℕ) (b : Taken) → 0 < c.points → Sized limit c (length b.numbers) → Sized limit (after_point c) (length (pointing c x y b).numbers)
  unfolding pointing
  point_sized {limit} x y b l h = subst (Sized limit (after_point c)) (grown closes (last_of_table c)) (point_stage (length b.numbers) l h)
    where
      more : (a : Bool) → length b.numbers + cond a 0 2 ≡ length (cond a (noted x y b) (push y (push x (noted x y b)))).numbers
      more true = omega arith
      more false = omega (arith, one_more b.numbers x, one_more (b.numbers ++ x ∷ []) y)

      grown : (a z : Bool) → length b.numbers + cond a 0 2 + cond z 1 0
          ≡ length (cond z (push (held c.members) (cond a (noted x y b) (push y (push x (noted x y b))))) (cond a (noted x y b) (push y (push x (noted x y b))))).numbers
      grown a true = omega (arith, more a, one_more (cond a (noted x y b) (push y (push x (noted x y b)))).numbers (held c.members))
      grown a false = omega (arith, more a)

-- ---- a ring
ring_stage : {limit : ℕ} (c : Cursor) (n f : ℕ) → c.points ≡ 0 → 0 < c.rings → T (ring_fits c n) → Sized limit c f → Sized limit (with_points n c) (f + cond (eqb c.member 1) 0 1)
unfolding with_points ring_fits
ring_stage c n f p l fits h =
    let g = h.total in
    split (eqb c.member 1) (λ t.
    let m = eqb→eq c.member 1 t in
    let u = is_yes {A = ℕ} (eqb c.member 1) 0 1 t in
    let v = is_yes (eqb c.member 1) c.total (c.total + n) t in
    let w = eqb→eq n 4 (subst T (is_yes (eqb c.member 1) (eqb n 4) (leb 4 n && leb n 4096 && leb (c.total + n) 4096) t) fits) in
    record {
      is_limit = h.is_limit;
      members = h.members;
      total = omega arith;
      stage = elim h.stage [ sheet a s e ↦ absurd (omega arith) | first a s e k ↦ absurd (omega arith) | table a s e k ↦ table a s (omega arith) k | after a e ↦ absurd (omega arith) ];
    }) (λ t.
    let m = other c.member 1 tt t in
    let u = is_no {A = ℕ} (eqb c.member 1) 0 1 t in
    let v = is_no (eqb c.member 1) c.total (c.total + n) t in
    let w = subst T (is_no (eqb c.member 1) (eqb n 4) (leb 4 n && leb n 4096 && leb (c.total + n) 4096) t) fits in
    let x = leb→le 4 n (and_left (leb 4 n) (leb n 4096) (and_left (leb 4 n && leb n 4096) (leb (c.total + n) 4096) w)) in
    let y = leb→le (c.total + n) 4096 (and_right (leb 4 n && leb n 4096) (leb (c.total + n) 4096) w) in
    record {
      is_limit = h.is_limit;
      members = h.members;
      total = omega arith;
      stage = elim h.stage [ sheet a s e ↦ absurd (omega arith) | first a s e k ↦ absurd (omega arith) | table a s e k ↦ absurd (m a) | after a e ↦ after a (omega arith) ];
    })

pub ring_sized : {limit : ℕ} (c : Cursor) (n : ℕ) (b : Taken) → c.points ≡ 0 → 0 < c.rings → T (ring_fits c n) → Sized limit c (length b.numbers) → Sized limit (with_points n c) (length (ringing c n b).numbers)
unfolding ringing
ring_sized {limit} c n b p l fits h = subst (Sized limit (with_points n c)) (grown (eqb c.member 1)) (ring_stage c n (length b.numbers) p l fits h)
  where
    grown : (a : Bool) → length b.numbers + cond a 0 1 ≡ length (cond a b (push (held n) b)).numbers
    grown true = omega arith
    grown false = omega (arith, one_more b.numbers (held n))
