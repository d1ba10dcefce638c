-- The geometries that a container holds stand one behind the other, and behind the last is what is behind the container.
-- The idea: each container has a count of what is to come of it, and each geometry that was read takes one off. Assumes nothing.
use mathlib.Core.Path.{◌≡◌, refl, sym, ◌∙◌, ap, subst}
use mathlib.Core.Bool.{true, false}
use Prim.Native.Nat.{ℕ, zero, suc, ◌+◌, ◌-◌, ◌≤◌, ◌<◌}
use native.Mathlib.Omega.{arith}
use borrow.Author.Tests.{lt-ltb, le-ltb, ne_eqb}
use lib.Dec.{ltb, eqb}
use Rattle.whole.proofs.Tests.{by_equal, by_cond}
use Rattle.wkb_kinds.specs.declared.Slot.{Slot}
use Rattle.wkb_kinds.specs.declared.Slot.TheVariants.{Table, Piece, Part, Member}
use Rattle.wkb.specs.declared.Cursor.{Cursor}
use Rattle.wkb.specs.Places.{naming, header_to_come, polygons_begun}
use Rattle.wkb.specs.Steps.{slot_of, complete, renewed, up_to, popped, fewer_parts}
use Rattle.wkb.proofs.Steps.{popped_own}
use Rattle.wkb.proofs.Complete.{complete_is, not_complete}
use Rattle.sheet.specs.Behind.{counts, behind, behind_all, levels_at, levels, Begins, Row, Finished, After}
use Rattle.sheet.proofs.Counts.{same_behind_all, same_row}

-- ---- one geometry fewer
pub behind_part : (c : Cursor) → 0 < c.parts → behind c ≡ renewed (fewer_parts c)
unfolding behind
behind_part c h = rw (lt-ltb 0 c.parts h)

pub behind_other : (c : Cursor) → c.parts ≡ 0 → behind c ≡ renewed (popped c)
unfolding behind
behind_other c h = rw (le-ltb 0 c.parts (omega arith))

-- A member that is not complete doesn't give way.
pub renewed_stays : (c : Cursor) → complete c ≡ false → renewed c ≡ c
unfolding renewed
renewed_stays c e = rw e

-- ---- a container, of which n geometries are to come at k n
module _ (depth : ℕ) (k : ℕ → Cursor) (stands : (m : ℕ) → Begins depth (k (suc m))) (inside : (m : ℕ) → eqb (k (suc m)).member 0 ≡ false)
    (goes : (m : ℕ) → counts (behind (k (suc m))) ≡ counts (renewed (k m))) where
  stays : (m : ℕ) → counts (renewed (k (suc m))) ≡ counts (k (suc m))
  stays m = ap counts (renewed_stays (k (suc m)) (rw (inside m) at (stands m).more))

  pub row : (n : ℕ) → Row n depth (k n)
  row zero = tt
  row (suc zero) = (stands 0, inside 0, tt)
  row (suc (suc n)) = (stands (suc n), inside (suc n), same_row (suc n) depth (k (suc n)) (behind (k (suc (suc n)))) (sym (goes (suc n) ∙ stays n)) (row (suc n)))

  pub behind_row : (n : ℕ) → counts (behind_all (suc n) (k (suc n))) ≡ counts (renewed (k 0))
  unfolding behind_all
  behind_row zero = goes 0
  behind_row (suc n) = same_behind_all (suc n) (behind (k (suc (suc n)))) (k (suc n)) (goes (suc n) ∙ stays n) ∙ behind_row n

-- ---- a row, geometry by geometry
pub row_first : (n depth : ℕ) (c : Cursor) → 0 < n → Row n depth c → Begins depth c
row_first zero depth c l h = absurd (omega arith)
row_first (suc n) depth c l h = h.0

pub row_next : (n m depth : ℕ) (c d : Cursor) → n ≡ suc m → Row n depth c → After (eqb c.member 0) c d → Row m depth d × (counts (behind_all m d) ≡ counts (behind_all n c))
unfolding behind_all
row_next zero m depth c d l h k = absurd (omega arith)
row_next (suc n) m depth c d l h k =
    let e : counts d ≡ counts (behind c) = rw h.1 at k in
    let z : n ≡ m = omega arith in
    subst (λ x. Row x depth d × (counts (behind_all x d) ≡ counts (behind_all (suc n) c))) z (same_row n depth (behind c) d (sym e) h.2, same_behind_all n d (behind c) e)

pub row_done : (n : ℕ) (c k : Cursor) → n ≡ 0 → counts (behind_all n c) ≡ k → counts c ≡ k
unfolding behind_all
row_done zero c k z e = e
row_done (suc n) c k z e = absurd (omega arith)

-- ---- the members of the sheet
-- The place names a member whose own header is to come, with so many members after it.
pub record Own (m : ℕ) (c : Cursor) : Type 0 where
  pub no_rings : c.rings ≡ 0
  pub no_points : c.points ≡ 0
  pub header : c.header ≡ true
  pub none : c.second + c.third + c.fourth + c.parts ≡ 0
  pub inside : eqb c.member 0 ≡ false
  pub members : c.members ≡ m

own_stands : (m depth : ℕ) (c : Cursor) → Own m c → levels c ≤ depth → Begins depth c
own_stands m depth c h l = record {
  no_rings = h.no_rings;
  no_points = h.no_points;
  more = rw h.inside (not_complete c (λ k. let z : ◌≡◌ {A = ℕ} 0 1 = cc (h.header, k.no_header) in omega arith));
  alone = λ t. h.none;
  deep = l;
}

-- The place where its own geometry was read to its end, which completes it; and the place of the next member.
closed_own : (m : ℕ) (c : Cursor) → Own m c → complete (header_to_come false c) ≡ true
closed_own m c h = let z = h.none in complete_is (header_to_come false c) (record {
  no_header = refl;
  no_second = omega arith;
  no_third = omega arith;
  no_fourth = omega arith;
  no_parts = omega arith;
  no_rings = h.no_rings;
  no_points = h.no_points;
})

abbrev next_own : Cursor → Cursor
next_own c = header_to_come true (polygons_begun 0 (naming (up_to c.limit c.member) (c.members - 1) (header_to_come false c)))

behind_own : (m : ℕ) (c : Cursor) → Own m c → behind c ≡ renewed (header_to_come false c)
behind_own m c h = let z = h.none in behind_other c (omega arith) ∙ ap renewed (popped_own c h.header)

last_own : (c : Cursor) → Own 0 c → behind c ≡ header_to_come false c
unfolding renewed
last_own c h = behind_own 0 c h ∙ (let z = h.members in rw (closed_own 0 c h, le-ltb 0 c.members (omega arith)))

more_own : (m : ℕ) (c : Cursor) → Own (suc m) c → behind c ≡ next_own c
unfolding renewed
more_own m c h = behind_own (suc m) c h ∙ (let z = h.members in rw (closed_own (suc m) c h, lt-ltb 0 c.members (omega arith)))

one_more : (limit n : ℕ) → eqb n 0 ≡ false → eqb (up_to limit n) 0 ≡ false
one_more limit n e = by_equal (λ (m : ℕ). eqb m 0 ≡ false) (ltb n limit) (n + 1) n (λ t. ne_eqb (n + 1) 0 (λ z. omega arith)) (λ t. e)

next_own_lem : (m : ℕ) (c : Cursor) → Own (suc m) c → Own m (next_own c)
next_own_lem m c h = record {
  no_rings = h.no_rings;
  no_points = h.no_points;
  header = refl;
  none = h.none;
  inside = one_more c.limit c.member h.inside;
  members = let z = h.members in omega arith;
}

-- At most four levels are inside a member, or the table.
own_levels : (c : Cursor) → eqb c.member 0 ≡ false → levels c ≤ 4
unfolding levels slot_of
own_levels c e =
    rw e (by_cond (λ (l : Slot). levels_at l c.header c.third c.fourth ≤ 4) (eqb c.member 1) _ _
    (λ t. by_cond (λ (l : Slot). levels_at l c.header c.third c.fourth ≤ 4) (ltb 0 c.parts) Piece Table (λ t. omega arith) (omega arith))
    (by_cond (λ (l : Slot). levels_at l c.header c.third c.fourth ≤ 4) (ltb 0 c.parts) Part Member (λ t. omega arith)
    (by_cond (λ n. n ≤ 4) c.header 4 _ (λ t. omega arith) (by_cond (λ n. n ≤ 4) (ltb 0 c.fourth) 1 _ (λ t. omega arith) (by_cond (λ n. n ≤ 4) (ltb 0 c.third) 2 3 (λ t. omega arith) (omega arith))))))

pub own_row : (m depth : ℕ) (c : Cursor) → 4 ≤ depth → Own m c → Row (suc m) depth c
own_row zero depth c l h = let k = own_levels c h.inside in (own_stands 0 depth c h (omega arith), h.inside, tt)
own_row (suc m) depth c l h =
    let k = own_levels c h.inside in
    (own_stands (suc m) depth c h (omega arith), h.inside, rw (more_own m c h) (own_row m depth (next_own c) l (next_own_lem m c h)))

pub own_finished : (m : ℕ) (c : Cursor) → Own m c → Finished (behind_all (suc m) c)
unfolding behind_all
own_finished zero c h = rw (last_own c h) (rw h.inside (closed_own 0 c h), h.members)
own_finished (suc m) c h = subst (λ d. Finished (behind_all (suc m) d)) (sym (more_own m c h)) (own_finished m (next_own c) (next_own_lem m c h))
