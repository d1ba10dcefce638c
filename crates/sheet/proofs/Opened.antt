-- A geometry's header, where one stands: the step is a refusal, or it opens a polygon, which closed is behind the geometry, or a container, whose
-- geometries stand in a row with one level fewer, the last of them before what is behind the geometry.
-- The idea: go by where the geometry stands and by its kind. Assumes nothing.
use mathlib.Core.Path.{◌≡◌, refl, sym, ◌∙◌, ap, ap₂, subst}
use mathlib.Core.Bool.{Bool, true, false, true≢false}
use mathlib.Core.List.{List}
use Rattle.std.specs.Prelude.{Result, Ok, Err}
use Rattle.lent.specs.declared.Fault.{Fault}
use Prim.Native.Nat.{ℕ, zero, suc, ◌+◌, ◌-◌, ◌≤◌, ◌<◌}
use native.Mathlib.Omega.{arith}
use borrow.Author.Tests.{ltb-true, ltb-false, lt-ltb, le-ltb}
use lib.Dec.{ltb, eqb}
use Rattle.whole.proofs.Tests.{by_equal, by_cond}
use Rattle.wkb_kinds.specs.declared.Slot.{Slot}
use Rattle.wkb_kinds.specs.declared.Slot.TheVariants.{Sheet, Table, Piece, Part, Member}
use Rattle.wkb.specs.declared.Cursor.{Cursor}
use Rattle.wkb.specs.declared.Step.{Step}
use Rattle.wkb.specs.declared.Step.TheVariants.{Geometry, Ring, Point, End, Refused}
use Rattle.wkb.specs.Places.{moved, naming, header_to_come, second_to_come, third_to_come, fourth_to_come, parts_to_come, polygon_to_come}
use Rattle.wkb.specs.Steps.{slot_of, renewed, kind_fault, count_fits, popped, fewer_parts, with_sheet, with_parts, with_members, with_rings, opened, step_at}
use Rattle.wkb.proofs.Steps.{pops, count_some, popped_own, popped_fourth, popped_third, popped_second}
use Rattle.wkb.proofs.Cases.{by_case}
use Rattle.wkb.proofs.Complete.{not_complete}
use Rattle.wkb.proofs.Allowed.{allowed_member, polygon, parts, members}
use Rattle.sheet.specs.declared.Build.{Build}
use Rattle.sheet.specs.declared.Reached.{Reached}
use Rattle.sheet.specs.Going.{Leads}
use Rattle.sheet.specs.Behind.{counts, closed, behind, behind_all, levels_at, levels, Begins, Row, After, To, Past}
use Rattle.sheet.proofs.Onward.{Goes}
use Rattle.sheet.proofs.Counts.{same_renewed, same_finished}
use Rattle.sheet.proofs.Rows.{behind_part, behind_other, row, behind_row, Own, own_row, own_finished}

-- ---- the step
-- A header that is let through opens its geometry.
abbrev pub Opens : Cursor → Step → Type 0
Opens c (Geometry kind n d) = (little : Bool) × (d ≡ opened (slot_of c) c little kind n) × (kind_fault (slot_of c) c kind ≡ 0) × (count_fits c.limit (slot_of c) n ≡ true)
Opens c (Ring n d) = ⊥
Opens c (Point x y d) = ⊥
Opens c (End d) = ⊥
Opens c (Refused reason item field d) = Unit {0}

pub step_opens : (s : List ℕ) (depth : ℕ) (c : Cursor) → Begins depth c → Opens c (step_at s c)
step_opens s depth c h = by_case (Opens c) s c (record {
  refused = λ reason field t f. tt;
  point = λ p l. let z = h.no_points in omega arith;
  ring = λ p r l n f. let z = h.no_rings in omega arith;
  end = λ due. absurd (true≢false (sym due.2 ∙ h.more));
  geometry = λ p r t l little kind n k f. (little, refl, k, f);
})

-- ---- what is opened
-- A header with the count n leads from c to d: an open polygon, or a container with a row of n geometries.
pub record Holds (depth : ℕ) (c : Cursor) (n : ℕ) (d : Cursor) : Type 0 where
  pub polygon : 0 < d.rings → (e : Cursor) → counts e ≡ counts (closed d) → After (eqb c.member 0) c e
  pub deeper : d.rings ≡ 0 → 0 < depth
  pub stand : d.rings ≡ 0 → Row n (depth - 1) d
  pub last : d.rings ≡ 0 → (e : Cursor) → counts e ≡ counts (behind_all n d) → After (eqb c.member 0) c e

stands_inside : (depth : ℕ) (c : Cursor) → c.rings ≡ 0 → c.points ≡ 0 → c.header ≡ false → eqb c.member 0 ≡ false
    → 0 < c.second + c.third + c.fourth + c.parts → levels c ≤ depth → Begins depth c
stands_inside depth c r p h i l d = record {
  no_rings = r;
  no_points = p;
  more = rw i (not_complete c (λ k. let s = k.no_second in let t = k.no_third in let f = k.no_fourth in let q = k.no_parts in omega arith));
  alone = λ t. absurd (rw (i, h) at t);
  deep = d;
}

-- How many levels are inside a piece or a part, and inside a geometry of a member.
part_levels : (c : Cursor) → eqb c.member 0 ≡ false → 0 < c.parts → levels c ≡ 0
unfolding levels slot_of
part_levels c i l = rw (i, lt-ltb 0 c.parts l) (by_cond (λ (slot : Slot). levels_at slot c.header c.third c.fourth ≡ 0) (eqb c.member 1) Piece Part (λ t. refl) refl)

member_levels : (c : Cursor) → eqb c.member 0 ≡ false → eqb c.member 1 ≡ false → c.parts ≡ 0 → levels c ≡ levels_at Member c.header c.third c.fourth
unfolding levels slot_of
member_levels c i o z = rw (i, o, le-ltb 0 c.parts (omega arith))

-- A geometry under a member of the sheet or under the table.
module _ (depth : ℕ) (c : Cursor) (inside : eqb c.member 0 ≡ false) where
  -- A polygon.
  holds_rings : (counted : Bool) (n : ℕ) (little : Bool) (p : Cursor) → 0 < n → p.rings ≡ 0 → p.points ≡ 0 → behind c ≡ renewed p → Holds depth c n (with_rings counted n little p)
  unfolding closed with_rings
  holds_rings counted n little p l r q e = record {
    polygon = λ z f k. rw inside (k ∙ same_renewed _ p (ap₂ (λ x y. counts (polygon_to_come x little y p)) (sym r) (sym q)) ∙ ap counts (sym e));
    deeper = λ z. absurd (omega arith);
    stand = λ z. absurd (omega arith);
    last = λ z. absurd (omega arith);
  }

  -- A container, of which a count of the place says how many geometries are to come.
  holds_row : (toCome : ℕ → Cursor → Cursor) (p : Cursor) → behind c ≡ renewed p → counts (toCome 0 (moved 9 p)) ≡ counts p
      → ((m : ℕ) → Begins (depth - 1) (toCome (suc m) (moved 9 p)) × (eqb (toCome (suc m) (moved 9 p)).member 0 ≡ false) × (behind (toCome (suc m) (moved 9 p)) ≡ renewed (toCome (suc m - 1) (moved 9 p))))
      → 0 < depth → (n : ℕ) → 0 < n → (toCome n (moved 9 p)).rings ≡ 0 → Holds depth c n (toCome n (moved 9 p))
  holds_row toCome p e none each d zero l r = absurd (omega arith)
  holds_row toCome p e none each d (suc n) l r = record {
    polygon = λ z. absurd (omega arith);
    deeper = λ z. d;
    stand = λ z. row (depth - 1) k (λ m. (each m).0) (λ m. (each m).1) goes (suc n);
    last = λ z f g. rw inside (g ∙ behind_row (depth - 1) k (λ m. (each m).0) (λ m. (each m).1) goes n ∙ same_renewed (k 0) p none ∙ ap counts (sym e));
  }
    where
      k : ℕ → Cursor
      k m = toCome m (moved 9 p)

      goes : (m : ℕ) → counts (behind (k (suc m))) ≡ counts (renewed (k m))
      goes m = ap counts (each m).2 ∙ ap (λ x. counts (renewed (k x))) (omega arith)

  -- The table or a MultiPolygon, with its pieces or parts.
  holds_parts : (n : ℕ) (p : Cursor) → 0 < n → 0 < depth → p.rings ≡ 0 → p.points ≡ 0 → p.header ≡ false → eqb p.member 0 ≡ false → p.parts ≡ 0 → behind c ≡ renewed p → Holds depth c n (with_parts n p)
  unfolding with_parts fewer_parts
  holds_parts n p l d r q h i z e = holds_row parts_to_come p e (ap (λ x. counts (parts_to_come x p)) (sym z)) each d n l r
    where
      each : (m : ℕ) → Begins (depth - 1) (parts_to_come (suc m) (moved 9 p)) × (eqb p.member 0 ≡ false) × (behind (parts_to_come (suc m) (moved 9 p)) ≡ renewed (parts_to_come (suc m - 1) (moved 9 p)))
      each m =
          let f = parts_to_come (suc m) (moved 9 p) in
          (stands_inside (depth - 1) f r q h i (omega arith) (let v = part_levels f i (omega arith) in omega arith), i, behind_part f (omega arith))

-- A collection under a member: its own, and one in a collection at depth 2 or 3. At depth 4 none is let through.
module _ (depth : ℕ) (c : Cursor) (h : Begins depth c) (inside : eqb c.member 0 ≡ false) (other : eqb c.member 1 ≡ false) (z : c.parts ≡ 0) (n : ℕ) (l : 0 < n) where
  levels_at_lem : levels_at Member c.header c.third c.fourth ≤ depth
  levels_at_lem = rw (member_levels c inside other z) at h.deep

  -- One of its members, of which the header, the counts and the levels are these.
  stands_member : (d : Cursor) → d.rings ≡ c.rings → d.points ≡ c.points → d.member ≡ c.member → d.parts ≡ c.parts → d.header ≡ false → 0 < d.second + d.third + d.fourth
      → levels_at Member false d.third d.fourth ≤ depth - 1 → Begins (depth - 1) d
  stands_member d r q m p e k v =
      let i : eqb d.member 0 ≡ false = rw m inside in
      let o : eqb d.member 1 ≡ false = rw m other in
      stands_inside (depth - 1) d (r ∙ h.no_rings) (q ∙ h.no_points) e i (omega arith) (rw (member_levels d i o (p ∙ z), e) v)

  holds_own : c.header ≡ true → Holds depth c n (with_members c n (popped c))
  unfolding with_members
  holds_own e =
      let none = h.alone (rw (inside, e) tt) in
      let v : 4 ≤ depth = rw e at levels_at_lem in
      let p = header_to_come false c in
      let fourth-none : c.fourth ≡ 0 = omega arith in
      let third-none : c.third ≡ 0 = omega arith in
      subst (Holds depth c n) (sym (ap (with_members c n) (popped_own c e) ∙ rw e))
      (holds_row depth c inside second_to_come p (behind_other c z ∙ ap renewed (popped_own c e)) (ap (λ x. counts (second_to_come x p)) (omega arith))
      (λ m. (
        stands_member (second_to_come (suc m) (moved 9 p)) refl refl refl refl refl (omega arith) (rw (le-ltb 0 c.fourth (omega arith), le-ltb 0 c.third (omega arith)) (omega arith)),
        inside,
        behind_other (second_to_come (suc m) (moved 9 p)) z ∙ ap renewed (popped_second (second_to_come (suc m) (moved 9 p)) refl fourth-none third-none),
      )) (omega arith) n l h.no_rings)

  holds_second : c.header ≡ false → c.fourth ≡ 0 → c.third ≡ 0 → Holds depth c n (with_members c n (popped c))
  unfolding with_members
  holds_second e f t =
      let v : 3 ≤ depth = rw (e, le-ltb 0 c.fourth (omega arith), le-ltb 0 c.third (omega arith)) at levels_at_lem in
      let p = second_to_come (c.second - 1) c in
      subst (Holds depth c n) (sym (ap (with_members c n) (popped_second c e f t) ∙ rw (e, le-ltb 0 c.third (omega arith))))
      (holds_row depth c inside third_to_come p (behind_other c z ∙ ap renewed (popped_second c e f t)) (ap (λ x. counts (third_to_come x p)) (sym t))
      (λ m. (
        stands_member (third_to_come (suc m) (moved 9 p)) refl refl refl refl e (omega arith) (rw (le-ltb 0 c.fourth (omega arith), lt-ltb 0 (suc m) (omega arith)) (omega arith)),
        inside,
        behind_other (third_to_come (suc m) (moved 9 p)) z ∙ ap renewed (popped_third (third_to_come (suc m) (moved 9 p)) e f (omega arith)),
      )) (omega arith) n l h.no_rings)

  holds_third : c.header ≡ false → c.fourth ≡ 0 → 0 < c.third → Holds depth c n (with_members c n (popped c))
  unfolding with_members
  holds_third e f t =
      let v : 2 ≤ depth = rw (e, le-ltb 0 c.fourth (omega arith), lt-ltb 0 c.third t) at levels_at_lem in
      let p = third_to_come (c.third - 1) c in
      subst (Holds depth c n) (sym (ap (with_members c n) (popped_third c e f t) ∙ rw (e, lt-ltb 0 c.third t)))
      (holds_row depth c inside fourth_to_come p (behind_other c z ∙ ap renewed (popped_third c e f t)) (ap (λ x. counts (fourth_to_come x p)) (sym f))
      (λ m. (
        stands_member (fourth_to_come (suc m) (moved 9 p)) refl refl refl refl e (omega arith) (rw (lt-ltb 0 (suc m) (omega arith)) (omega arith)),
        inside,
        behind_other (fourth_to_come (suc m) (moved 9 p)) z ∙ ap renewed (popped_fourth (fourth_to_come (suc m) (moved 9 p)) e (omega arith)),
      )) (omega arith) n l h.no_rings)

-- ---- by where the geometry stands
abbrev Where : Cursor → Slot → Type 0
Where c Sheet = eqb c.member 0 ≡ true
Where c Table = (eqb c.member 0 ≡ false) × (c.parts ≡ 0)
Where c Piece = (eqb c.member 0 ≡ false) × (0 < c.parts)
Where c Part = (eqb c.member 0 ≡ false) × (0 < c.parts)
Where c Member = (eqb c.member 0 ≡ false) × (eqb c.member 1 ≡ false) × (c.parts ≡ 0)

where_is : (c : Cursor) → Where c (slot_of c)
unfolding slot_of
where_is c =
    by_equal (Where c) (eqb c.member 0) _ _ (λ e. e) (λ e.
    by_equal (Where c) (eqb c.member 1) _ _
    (λ f. by_equal (Where c) (ltb 0 c.parts) Piece Table (λ g. (e, ltb-true 0 c.parts g)) (λ g. let z = ltb-false 0 c.parts g in (e, omega arith)))
    (λ f. by_equal (Where c) (ltb 0 c.parts) Part Member (λ g. (e, ltb-true 0 c.parts g)) (λ g. let z = ltb-false 0 c.parts g in (e, f, omega arith))))

-- The sheet, with the table and its members.
holds_sheet : (depth : ℕ) (c : Cursor) → Begins depth c → eqb c.member 0 ≡ true → 5 ≤ depth → (n : ℕ) → 0 < n → Holds depth c n (with_sheet n c)
unfolding with_sheet
holds_sheet depth c h w v zero l = absurd (omega arith)
holds_sheet depth c h w v (suc m) l = record {
  polygon = λ z. let r = h.no_rings in absurd (omega arith);
  deeper = λ z. omega arith;
  stand = λ z. own_row m (depth - 1) d (omega arith) own;
  last = λ z e g. rw w (same_finished (behind_all (suc m) d) e (sym g) (own_finished m d own));
}
  where
    d : Cursor
    d = header_to_come true (naming 1 (suc m - 1) (moved 9 c))

    own : Own m d
    own = record { no_rings = h.no_rings; no_points = h.no_points; header = refl; none = h.alone (rw w tt); inside = refl; members = omega arith }

module _ (depth : ℕ) (c : Cursor) (h : Begins depth c) (little : Bool) (kind n : ℕ) (l : 0 < n) where
  -- The geometry of a member or of a collection under it.
  holds_member : Where c Member → kind_fault Member c kind ≡ 0 → Holds depth c n (opened Member c little kind n)
  unfolding opened
  holds_member w f =
      let k = pops c in
      let back = behind_other c w.2 in
      let v = rw (member_levels c w.0 w.1 w.2) at h.deep in
      let some : 1 ≤ depth = by_cond (λ x. x ≤ depth → 1 ≤ depth) c.header 4 _ (λ t y. omega arith) (by_cond (λ x. x ≤ depth → 1 ≤ depth) (ltb 0 c.fourth) 1 _ (λ t y. omega arith) (by_cond (λ x. x ≤ depth → 1 ≤ depth) (ltb 0 c.third) 2 3 (λ t y. omega arith) (λ y. omega arith))) v in
      elim (allowed_member c kind f) [
        | polygon e m ↦ rw e (holds_rings depth c w.0 true n little (popped c) l (k.rings ∙ h.no_rings) (k.points ∙ h.no_points) back)
        | parts e ↦ rw e (holds_parts depth c w.0 n (popped c) l some (k.rings ∙ h.no_rings) (k.points ∙ h.no_points) k.header (rw k.member w.0) (k.parts ∙ w.2) back)
        | members e z ↦ rw e (collection z c.header refl)
      ]
    where
      deeper : c.fourth ≡ 0 → c.header ≡ false → (b : Bool) → ltb 0 c.third ≡ b → Holds depth c n (with_members c n (popped c))
      deeper z e true t = holds_third depth c h w.0 w.1 w.2 n l e z (ltb-true 0 c.third t)
      deeper z e false t = let y = ltb-false 0 c.third t in holds_second depth c h w.0 w.1 w.2 n l e z (omega arith)

      collection : c.fourth ≡ 0 → (b : Bool) → c.header ≡ b → Holds depth c n (with_members c n (popped c))
      collection z true e = holds_own depth c h w.0 w.1 w.2 n l e
      collection z false e = deeper z e (ltb 0 c.third) refl

  holds : (slot : Slot) → Where c slot → levels_at slot c.header c.third c.fourth ≤ depth → kind_fault slot c kind ≡ 0 → Holds depth c n (opened slot c little kind n)
  unfolding opened fewer_parts
  holds Sheet w v f = holds_sheet depth c h w v n l
  holds Table w v f =
      let k = pops c in
      holds_parts depth c w.0 n (popped c) l v (k.rings ∙ h.no_rings) (k.points ∙ h.no_points) k.header (rw k.member w.0) (k.parts ∙ w.1) (behind_other c w.1)
  holds Piece w v f = holds_rings depth c w.0 false n little (fewer_parts c) l h.no_rings h.no_points (behind_part c w.1)
  holds Part w v f = holds_rings depth c w.0 true n little (fewer_parts c) l h.no_rings h.no_points (behind_part c w.1)
  holds Member w v f = holds_member w f

-- A step that opens a geometry where one stands.
pub step_holds : (s : List ℕ) (depth : ℕ) (c : Cursor) (kind n : ℕ) (d : Cursor) → Begins depth c → step_at s c ≡ Geometry kind n d → Holds depth c n d
unfolding levels
step_holds s depth c kind n d h e =
    let o = subst (Opens c) e (step_opens s depth c h) in
    subst (Holds depth c n) (sym o.1) (holds depth c h o.0 kind n (count_some c.limit (slot_of c) n o.3) (slot_of c) (where_is c) h.deep o.2)

-- ---- what the code comes to after such a step
opens_goes : (c : Cursor) (a : Step) → Opens c a → Goes a
opens_goes c (Geometry kind n d) o = tt
opens_goes c (Ring n d) o = absurd o
opens_goes c (Point x y d) o = absurd o
opens_goes c (End d) o = absurd o
opens_goes c (Refused reason item field d) o = tt

pub stands_goes : (s : List ℕ) (depth : ℕ) (c : Cursor) → Begins depth c → Goes (step_at s c)
stands_goes s depth c h = opens_goes c (step_at s c) (step_opens s depth c h)

module _ (s : List ℕ) (depth : ℕ) (c : Cursor) (b : Build) (a : Step) (e : a ≡ step_at s c) (h : Begins depth c) (q : Reached) (l : Leads a b (Ok q)) where
  -- It goes on from a geometry, which holds what its header says,
  pub goes_held : (kind n : ℕ) (x : Cursor) → a ≡ Geometry kind n x → Holds depth c n q.place
  goes_held kind n x g =
      let k : Leads (Geometry kind n x) b (Ok q) = subst (λ z. Leads z b (Ok q)) g l in
      subst (Holds depth c n) (sym k.0) (step_holds s depth c kind n x h (sym e ∙ g))

  -- and from no other answer.
  pub goes_nowhere : ((kind n : ℕ) (x : Cursor) → a ≡ Geometry kind n x → ⊥) → ⊥
  goes_nowhere = go a (subst (Opens c) (sym e) (step_opens s depth c h)) l
    where
      go : (a : Step) → Opens c a → Leads a b (Ok q) → ((kind n : ℕ) (x : Cursor) → a ≡ Geometry kind n x → ⊥) → ⊥
      go (Geometry kind n x) o k t = t kind n x refl
      go (Ring n x) o k t = absurd o
      go (Point p y x) o k t = absurd o
      go (End x) o k t = absurd o
      go (Refused reason item field x) o k t = absurd k

-- Behind the polygon or the row that was opened at d, reading is behind the geometry.
module _ {depth : ℕ} {c : Cursor} {n : ℕ} {d : Cursor} (h : Holds depth c n d) where
  pub past_polygon : 0 < d.rings → (r : Result Reached Fault) → To (closed d) r → Past c r
  past_polygon l (Ok q) k = h.polygon l q.place k
  past_polygon l (Err f) k = tt

  pub past_row : d.rings ≡ 0 → (r : Result Reached Fault) → To (behind_all n d) r → Past c r
  past_row z (Ok q) k = h.last z q.place k
  past_row z (Err f) k = tt
