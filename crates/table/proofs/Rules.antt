-- The check of a table passes exactly if rules A, B and C hold, and is refused exactly as the first rule that fails says: the laws of the
-- chain tell which stage stopped.
-- The idea for rule B: a side repeats exactly if it stands twice among all sides, since a triangle with an area has three different
-- sides; so the sides of the earlier triangles and of those to come are counted together. Assumes nothing.
use mathlib.Core.Path.{◌≡◌, refl, sym, ◌∙◌, ap, subst}
use mathlib.Core.Logic.Iff
use mathlib.Core.Logic.{◌↔◌, ◌⊎◌, inl, inr, ⊎_elim}
use mathlib.Core.Bool.{Bool, true, false, not}
use mathlib.Core.List.{List, [], ◌∷◌, flat_map}
use mathlib.Core.Option.{Option, none, some, none-ne-some, some-injective}
use Prim.Native.Nat.{ℕ, suc, ◌+◌, ◌≤◌}
use native.Mathlib.Omega.{arith}
use native.Mathlib.Decide.{dec_le}
use lib.Dec.{T, T_not}
use lib.IntN.{pos}
use lib.ListN.{length}
use lib.Signed.{lt_z, ◌<ℤ◌, lt_z_yes, <ℤ_irrefl}
use Rattle.whole.specs.Sums.{All, any, bit, count}
use Rattle.whole.specs.Polynomials.{con, ◌:-◌, ◌:*◌, ◌:=◌}
use Rattle.whole.proofs.Ring.{solve}
use Rattle.whole.proofs.Sums.{count-++, counted, not_counted, all_counted, all_map, none_any}
use Rattle.plane.specs.Points.{Point, Edge, Triangle, ◌⟶◌, sides, same_edge, turn, double}
use Rattle.plane.specs.Boundaries.{SameBoundary, agree, sides_of}
use Rattle.plane.proofs.Points.{same_edge-eq, same_edge-refl}
use Rattle.plane.proofs.Boundaries.{agree_is}
use Rattle.lent.specs.Stages.{Answer, value, refused, needing, faultless}
use Rattle.lent.proofs.Stages.{chain_value, chain_refused, faultless_value, faultless_refused, needing_value, needing_refused}
use Rattle.table.specs.Table.{RuleA, RuleB, RuleC, first_fault, flat, repeats, check_table}

-- No member fails the test that also sees those before it.
abbrev pub NoFault : {A : Type 0} → (List A → A → Bool) → List A → List A → Type 0
NoFault bad before [] = Unit {0}
NoFault bad before (a ∷ l) = (T (bad before a) → ⊥) × NoFault bad (a ∷ before) l

pub no_fault : {A : Type 0} (bad : List A → A → Bool) (before l : List A) → (first_fault bad before l ≡ none) ↔ NoFault bad before l
no_fault bad before [] = (λ e. tt, λ h. refl)
no_fault bad before (a ∷ l) = go (bad before a) (no_fault bad (a ∷ before) l)
  where
    go : (b : Bool) → (first_fault bad (a ∷ before) l ≡ none) ↔ NoFault bad (a ∷ before) l
        → (◌≡◌ {A = Option ℕ} (elim b [ true ↦ some (suc (length before)) | false ↦ first_fault bad (a ∷ before) l ]) none) ↔ ((T b → ⊥) × NoFault bad (a ∷ before) l)
    go true r = (λ e. absurd (let z : ◌≡◌ {A = ℕ} 0 1 = cc in omega arith), λ h. absurd (h.0 tt))
    go false r = (λ e. (λ t. t, r.0 e), λ h. r.1 h.1)

-- ---- rule A
pub rule_a : (before l : List Triangle) → NoFault flat before l ↔ RuleA l
rule_a before [] = (λ h. tt, λ h. tt)
rule_a before (t ∷ l) = (
  λ h. (lt_z_yes (positive (lt_z (pos 0) (double t)) h.0), (rule_a (t ∷ before) l).0 h.1),
  λ h. (λ n. T_not (lt_z (pos 0) (double t)) n h.0.lt, (rule_a (t ∷ before) l).1 h.1),
)
  where
    positive : (b : Bool) → (T (not b) → ⊥) → T b
    positive true f = tt
    positive false f = f tt

-- ---- rule B
turn_same : (a c : Point) → turn a a c ≡ pos 0
unfolding turn
turn_same a c = solve 4 (λ ax ay cx cy. (ax :- ax) :* (cy :- ay) :- (cx :- ax) :* (ay :- ay) := con (pos 0)) tt a.x a.y c.x c.y

-- A triangle with an area has no side twice.
three_sides : (t : Triangle) → pos 0 <ℤ double t → (e : Edge) → count same_edge e (sides t) ≤ 1
three_sides t h e = one (same_edge ab e) (same_edge bc e) (same_edge ca e)
    (λ p q. flat_out (begin (alike ab bc p q)))
    (λ q r. flat_out (sym (begin (alike bc ca q r) ∙ end (alike bc ca q r))))
    (λ p r. flat_out (sym (end (alike ab ca p r))))
  where
    ab : Edge
    ab = t.a ⟶ t.b

    bc : Edge
    bc = t.b ⟶ t.c

    ca : Edge
    ca = t.c ⟶ t.a

    alike : (x y : Edge) → T (same_edge x e) → T (same_edge y e) → x ≡ y
    alike x y p q = same_edge-eq x e p ∙ sym (same_edge-eq y e q)

    begin : {x y : Edge} → x ≡ y → x.from ≡ y.from
    begin q = λ i. (q i).from

    end : {x y : Edge} → x ≡ y → x.to ≡ y.to
    end q = λ i. (q i).to

    flat_out : t.a ≡ t.b → ⊥
    flat_out q = <ℤ_irrefl (subst (λ z. pos 0 <ℤ z) (ap (λ b. turn t.a b t.c) (sym q) ∙ turn_same t.a t.c) h)

    one : (p q r : Bool) → (T p → T q → ⊥) → (T q → T r → ⊥) → (T p → T r → ⊥) → bit p + (bit q + (bit r + 0)) ≤ 1
    one true true r f g h = absurd (f tt tt)
    one true false true f g h = absurd (h tt tt)
    one true false false f g h = omega arith
    one false true true f g h = absurd (g tt tt)
    one false true false f g h = omega arith
    one false false true f g h = omega arith
    one false false false f g h = omega arith

-- How often an ordered pair is a side of the earlier triangles and of those to come.
abbrev sided : Edge → List Triangle → List Triangle → ℕ
sided e before l = count same_edge e (sides_of before) + count same_edge e (sides_of l)

sided_more : (e : Edge) (t : Triangle) (l : List Triangle) → count same_edge e (sides_of (t ∷ l)) ≡ count same_edge e (sides t) + count same_edge e (sides_of l)
unfolding flat_map
sided_more e t l = count-++ same_edge same_edge-eq same_edge-refl e (sides t) (flat_map sides l)

-- No side of the triangle is a side of an earlier one.
fresh : (before : List Triangle) (t : Triangle) → (T (repeats before t) → ⊥) ↔ All (λ e. count same_edge e (sides_of before) ≡ 0) (sides t)
fresh before t = (
  λ h. all_map (λ e. T (any (same_edge e) (sides_of before)) → ⊥) (λ e. count same_edge e (sides_of before) ≡ 0)
      (λ e n. (not_counted same_edge same_edge-eq same_edge-refl e (sides_of before)).0 ((none_any (same_edge e) (sides_of before)).0 n)) (sides t) ((none_any (λ e. any (same_edge e) (sides_of before)) (sides t)).0 h),
  λ h. (none_any (λ e. any (same_edge e) (sides_of before)) (sides t)).1 (all_map (λ e. count same_edge e (sides_of before) ≡ 0) (λ e. T (any (same_edge e) (sides_of before)) → ⊥)
      (λ e n. (none_any (same_edge e) (sides_of before)).1 ((not_counted same_edge same_edge-eq same_edge-refl e (sides_of before)).1 n)) (sides t) h),
)

once_all : (before l : List Triangle) → RuleA l → NoFault repeats before l → ((e : Edge) → count same_edge e (sides_of before) ≤ 1) → (e : Edge) → sided e before l ≤ 1
unfolding flat_map
once_all before [] area h k e = omega (arith, k e)
once_all before (t ∷ l) area h k e = omega (arith, sided_more e t before, sided_more e t l, once_all (t ∷ before) l area.1 h.1 (λ d. omega (arith, sided_more d t before, add d)) e)
  where
    add : (d : Edge) → count same_edge d (sides t) + count same_edge d (sides_of before) ≤ 1
    add d = go (dec_le 1 (count same_edge d (sides t)))
      where
        go : Dec (1 ≤ count same_edge d (sides t)) → count same_edge d (sides t) + count same_edge d (sides_of before) ≤ 1
        go (yes m) = omega (arith, three_sides t area.0 d, counted same_edge same_edge-eq same_edge-refl (λ d. count same_edge d (sides_of before) ≡ 0) d (sides t) m ((fresh before t).0 h.0))
        go (no m) = omega (arith, k d)

all_once : (before l : List Triangle) → ((e : Edge) → sided e before l ≤ 1) → NoFault repeats before l
unfolding flat_map
all_once before [] h = tt
all_once before (t ∷ l) h = (
  (fresh before t).1 (all_map (λ e. 1 ≤ count same_edge e (sides t)) (λ e. count same_edge e (sides_of before) ≡ 0) (λ e m. omega (arith, h e, sided_more e t l)) (sides t) (all_counted same_edge same_edge-eq same_edge-refl (sides t))),
  all_once (t ∷ before) l (λ e. omega (arith, h e, sided_more e t before, sided_more e t l)),
)

pub rule_b : (table : List Triangle) → RuleA table → NoFault repeats [] table ↔ RuleB table
unfolding flat_map
rule_b table area = (λ h e. omega (arith, once_all [] table area h (λ d. omega arith) e), λ h. all_once [] table (λ e. omega (arith, h e)))

-- ---- all three
-- The first member that fails a test, by its number: it does, and none before it does.
abbrev pub FirstFault : {A : Type 0} → (List A → A → Bool) → List A → List A → ℕ → Type 0
FirstFault bad before [] n = ⊥
FirstFault bad before (a ∷ l) n = (T (bad before a) × (n ≡ suc (length before))) ⊎ ((T (bad before a) → ⊥) × FirstFault bad (a ∷ before) l n)

pub first_fault_lem : {A : Type 0} (bad : List A → A → Bool) (before l : List A) (n : ℕ) → (first_fault bad before l ≡ some n) ↔ FirstFault bad before l n
first_fault_lem bad before [] n = (λ e. none-ne-some n e, λ f. absurd f)
first_fault_lem bad before (a ∷ l) n = go (bad before a) (first_fault_lem bad (a ∷ before) l n)
  where
    go : (b : Bool) → (first_fault bad (a ∷ before) l ≡ some n) ↔ FirstFault bad (a ∷ before) l n
        → (◌≡◌ {A = Option ℕ} (elim b [ true ↦ some (suc (length before)) | false ↦ first_fault bad (a ∷ before) l ]) (some n)) ↔ ((T b × (n ≡ suc (length before))) ⊎ ((T b → ⊥) × FirstFault bad (a ∷ before) l n))
    go true r = (λ e. inl (tt, sym (some-injective (suc (length before)) n e)), ⊎_elim (λ h. ap some (sym h.1)) (λ h. absurd (h.0 tt)))
    go false r = (λ e. inr (λ t. t, r.0 e), ⊎_elim (λ h. absurd h.0) (λ h. r.1 h.1))

-- 10 with the first triangle that has no area above 0; 11, where all have, with the first that has a side of an earlier one; 12 where these two
-- rules hold and rule C fails.
abbrev pub Refusal : List Edge → List Triangle → ℕ → ℕ → Type 0
Refusal outline table code item =
    ((code ≡ 10) × FirstFault flat [] table item)
    ⊎ ((code ≡ 11) × RuleA table × FirstFault repeats [] table item)
    ⊎ ((code ≡ 12) × (item ≡ 0) × RuleA table × RuleB table × (RuleC outline table → ⊥))

-- A comparison as a stage.
agrees : (l m : List Edge) (code item : ℕ) → (needing (agree l m) code item ≡ value tt) ↔ SameBoundary l m
agrees l m code item = Iff.trans (needing_value (agree l m) code item) (agree_is l m)

differs : (l m : List Edge) (number k code item : ℕ) → (needing (agree l m) number k ≡ refused code item) ↔ ((SameBoundary l m → ⊥) × (code ≡ number) × (item ≡ k))
differs l m number k code item = Iff.trans (needing_refused (agree l m) number k code item) (λ h. (λ b. h.0 ((agree_is l m).1 b), h.1, h.2), λ h. (λ t. h.0 ((agree_is l m).0 t), h.1, h.2))

module _ (outline : List Edge) (table : List Triangle) where
  -- The first two stages, and what they pass for.
  abbrev first : Answer (Unit {0})
  first = faultless 10 (first_fault flat [] table)

  abbrev second : Answer (Unit {0})
  second = faultless 11 (first_fault repeats [] table)

  areas : (first ≡ value tt) ↔ RuleA table
  areas = Iff.trans (faultless_value 10 _) (Iff.trans (no_fault flat [] table) (rule_a [] table))

  once : RuleA table → (second ≡ value tt) ↔ RuleB table
  once a = Iff.trans (faultless_value 11 _) (Iff.trans (no_fault repeats [] table) (rule_b table a))

  pub passes : (check_table outline table ≡ value tt) ↔ (RuleA table × RuleB table × RuleC outline table)
  unfolding check_table
  passes = (
    λ e.
        let (u, p, f) = (chain_value _ _ tt).0 e in
        let (w, q, g) = (chain_value _ _ tt).0 f in
        let a = areas.0 p in
        (a, (once a).0 q, (agrees _ _ 12 0).0 g),
    λ (a, b, c). (chain_value _ _ tt).1 (tt, areas.1 a, (chain_value _ _ tt).1 (tt, (once a).1 b, (agrees _ _ 12 0).1 c)),
  )

  -- Each refusal is given exactly if its rule is the first that fails.
  pub refused_as : (code item : ℕ) → (check_table outline table ≡ refused code item) ↔ Refusal outline table code item
  unfolding check_table
  refused_as code item = (
    λ e.
        elim ((chain_refused first _ code item).0 e) [
          | inl p ↦ let h = (faultless_refused 10 _ code item).0 p in inl (h.0, (first_fault_lem flat [] table item).0 h.1)
          | inr (u, p, f) ↦
              let a = areas.0 p in
              inr (elim ((chain_refused second _ code item).0 f) [
                | inl q ↦ let h = (faultless_refused 11 _ code item).0 q in inl (h.0, a, (first_fault_lem repeats [] table item).0 h.1)
                | inr (w, q, g) ↦ let h = (differs _ _ 12 0 code item).0 g in inr (h.1, h.2, a, (once a).0 q, h.0)
              ])
        ],
    λ r. elim r [
      | inl (n, f) ↦ (chain_refused first _ code item).1 (inl ((faultless_refused 10 _ code item).1 (n, (first_fault_lem flat [] table item).1 f)))
      | inr (inl (n, a, f)) ↦ (chain_refused first _ code item).1 (inr (tt, areas.1 a, (chain_refused second _ code item).1 (inl ((faultless_refused 11 _ code item).1 (n, (first_fault_lem repeats [] table item).1 f)))))
      | inr (inr (n, i, a, b, c)) ↦ (chain_refused first _ code item).1 (inr (tt, areas.1 a, (chain_refused second _ code item).1 (inr (tt, (once a).1 b, (differs _ _ 12 0 code item).1 (c, n, i)))))
    ],
  )
