-- The refusals of a table by its rules, each exactly if its rule is the first that is broken, with the item that document 01 names. The idea: the
-- check goes over the triangles with those before each at hand, so the fault it finds is at a triangle and at none before it. Assumes nothing.
use mathlib.Core.Path.{◌≡◌, refl, sym, ◌∙◌, ap, subst}
use mathlib.Core.Logic.{◌↔◌, ◌⊎◌, inl, inr}
use mathlib.Core.Bool.{Bool, true, false, not}
use mathlib.Core.List.{List, [], ◌∷◌, flat_map}
use mathlib.Core.Option.{Option, some}
use Prim.Native.Nat.{ℕ, zero, suc, ◌+◌, ◌-◌, ◌≤◌, ◌<◌}
use native.Mathlib.Decide.{dec_le}
use native.Mathlib.Omega.{arith}
use lib.Dec.{T, T_not}
use lib.IntN.{pos}
use lib.ListN.{length, get_or}
use lib.Signed.{lt_z, ◌<ℤ◌, lt_z_yes}
use Rattle.whole.specs.Sums.{All, Among, any, bit, count}
use Rattle.whole.proofs.Sums.{count-++, counted, none_any}
use Rattle.plane.specs.Points.{Edge, Triangle, sides, same_edge, double}
use Rattle.plane.specs.Boundaries.{sides_of}
use Rattle.plane.proofs.Points.{same_edge-eq, same_edge-refl}
use Rattle.lent.specs.Stages.{refused}
use Rattle.table.specs.Table.{frame_edges, RuleA, RuleB, RuleC, first_fault, flat, repeats, check_table}
use Rattle.table.proofs.Rules.{FirstFault, first_fault_lem, refused_as}
use Rattle.demands.specs.Triangles.{triangle, NoArea, RepeatsSide, First}

-- ---- the first member of a list that fails a test
module _ {A : Type 0} (bad : List A → A → Bool) (d : A) where
  -- What the test has seen before member i, counted from 0.
  abbrev seen : List A → List A → ℕ → List A
  seen before l zero = before
  seen before [] (suc i) = before
  seen before (a ∷ l) (suc i) = seen (a ∷ before) l i

  -- Member i fails the test, and none before it.
  record Fault (before l : List A) (i : ℕ) : Type 0 where
    within : i < length l
    fails : T (bad (seen before l i) (get_or l i d))
    none_before : (j : ℕ) → j < i → T (bad (seen before l j) (get_or l j d)) → ⊥

  fault_found : (before l : List A) (n : ℕ) → FirstFault bad before l n → (i : ℕ) × (n ≡ suc (length before + i)) × Fault before l i
  fault_found before [] n h = absurd h
  fault_found before (a ∷ l) n (inl h) = (0, omega (arith, h.1), record { within = omega arith; fails = h.0; none_before = λ j k. absurd (omega arith) })
  fault_found before (a ∷ l) n (inr h) = later (fault_found (a ∷ before) l n h.1)
    where
      earlier : (i : ℕ) → Fault (a ∷ before) l i → (j : ℕ) → j < suc i → T (bad (seen before (a ∷ l) j) (get_or (a ∷ l) j d)) → ⊥
      earlier i f zero k t = h.0 t
      earlier i f (suc j) k t = f.none_before j (omega arith) t

      later : (i : ℕ) × (n ≡ suc (suc (length before) + i)) × Fault (a ∷ before) l i → (i : ℕ) × (n ≡ suc (length before + i)) × Fault before (a ∷ l) i
      later (i, e, f) = (suc i, omega arith, record { within = omega (arith, f.within); fails = f.fails; none_before = earlier i f })

  fault_is : (before l : List A) (i : ℕ) → Fault before l i → first_fault bad before l ≡ some (suc (length before + i))
  fault_is before [] i f = absurd (omega (arith, f.within))
  fault_is before (a ∷ l) zero f = go (bad before a) f.fails
    where
      go : (b : Bool) → T b → ◌≡◌ {A = Option ℕ} (elim b [ true ↦ some (suc (length before)) | false ↦ first_fault bad (a ∷ before) l ]) (some (suc (length before + 0)))
      go true t = ap some (omega arith)
      go false t = absurd t
  fault_is before (a ∷ l) (suc i) f = go (bad before a) (f.none_before 0 (omega arith)) (fault_is (a ∷ before) l i further)
    where
      further : Fault (a ∷ before) l i
      further = record { within = omega (arith, f.within); fails = f.fails; none_before = λ j k. f.none_before (suc j) (omega arith) }

      go : (b : Bool) → (T b → ⊥) → first_fault bad (a ∷ before) l ≡ some (suc (suc (length before) + i))
          → ◌≡◌ {A = Option ℕ} (elim b [ true ↦ some (suc (length before)) | false ↦ first_fault bad (a ∷ before) l ]) (some (suc (length before + suc i)))
      go true n r = absurd (n tt)
      go false n r = r ∙ ap some (omega arith)

-- A triangle for a number that is on no table.
abbrev nowhere : Triangle
nowhere = triangle [] 1

-- The first triangle of which something holds, where the test says just that.
module _ (bad : List Triangle → Triangle → Bool) (Of : List Triangle → ℕ → Type 0) (table : List Triangle)
    (says : (i : ℕ) → i < length table → T (bad (seen bad nowhere [] table i) (get_or table i nowhere)) ↔ Of table (suc i)) where
  first_of : (k : ℕ) → FirstFault bad [] table k → First Of table k
  first_of k h =
      let (i, e, f) = fault_found bad nowhere [] table k h in
      let n : suc i ≡ k = omega arith in
      subst (First Of table) n (record { low = omega arith; high = omega (arith, f.within); holds = (says i f.within).0 f.fails; before = earlier i f })
    where
      earlier : (i : ℕ) → Fault bad nowhere [] table i → (j : ℕ) → 1 ≤ j → j < suc i → Of table j → ⊥
      earlier i f zero low l o = omega arith
      earlier i f (suc j) low l o = f.none_before j (omega arith) ((says j (omega (arith, f.within))).1 o)

  first_is : (k : ℕ) → First Of table k → first_fault bad [] table ≡ some k
  first_is zero f = absurd (omega (arith, f.low))
  first_is (suc i) f =
      fault_is bad nowhere [] table i (record {
        within = omega (arith, f.high);
        fails = (says i (omega (arith, f.high))).1 f.holds;
        none_before = λ j l t. f.before (suc j) (omega arith) (omega arith) ((says j (omega (arith, f.high))).0 t);
      })
      ∙ ap some (omega arith)

-- ---- rule A
no_area : (table : List Triangle) (i : ℕ) → i < length table → T (flat (seen flat nowhere [] table i) (get_or table i nowhere)) ↔ NoArea table (suc i)
no_area table i h = subst (λ j. T (not (lt_z (pos 0) (double (get_or table i nowhere)))) ↔ (pos 0 <ℤ double (get_or table j nowhere) → ⊥)) (omega arith) (says (get_or table i nowhere))
  where
    not_yes : (b : Bool) → (T b → ⊥) → T (not b)
    not_yes true f = absurd (f tt)
    not_yes false f = tt

    says : (t : Triangle) → T (not (lt_z (pos 0) (double t))) ↔ (pos 0 <ℤ double t → ⊥)
    says t = (λ n p. T_not (lt_z (pos 0) (double t)) n p.lt, λ f. not_yes (lt_z (pos 0) (double t)) (λ y. f (lt_z_yes y)))

-- ---- rule B
any_among : (p : Edge → Bool) (l : List Edge) → T (any p l) ↔ ((e : Edge) × Among same_edge e l × T (p e))
any_among p l = (to l, from)
  where
    to : (l : List Edge) → T (any p l) → (e : Edge) × Among same_edge e l × T (p e)
    to [] t = absurd t
    to (a ∷ l) t = go (p a) refl (to l) t
      where
        one : (b : Bool) → T b → 1 ≤ bit b + count same_edge a l
        one true t = omega arith
        one false t = absurd t

        go : (b : Bool) → p a ≡ b → (T (any p l) → (e : Edge) × Among same_edge e l × T (p e)) → T (elim b [ true ↦ true | false ↦ any p l ]) → (e : Edge) × Among same_edge e (a ∷ l) × T (p e)
        go true q r t = (a, one (same_edge a a) (same_edge-refl a), subst T (sym q) tt)
        go false q r t = let (e, m, u) = r t in (e, omega arith, u)

    from : (e : Edge) × Among same_edge e l × T (p e) → T (any p l)
    from (e, m, t) = go (any p l) (λ f. (none_any p l).0 f)
      where
        go : (b : Bool) → ((T b → ⊥) → All (λ a. T (p a) → ⊥) l) → T b
        go true n = tt
        go false n = absurd (counted same_edge same_edge-eq same_edge-refl (λ a. T (p a) → ⊥) e l m (n (λ f. f)) t)

-- A pair stands among the sides of what was seen exactly if it is a side of a triangle seen.
pub sided : (e : Edge) (t : Triangle) (l : List Triangle) → count same_edge e (sides_of (t ∷ l)) ≡ count same_edge e (sides t) + count same_edge e (sides_of l)
unfolding flat_map
sided e t l = count-++ same_edge same_edge-eq same_edge-refl e (sides t) (flat_map sides l)

abbrev Earlier : Edge → List Triangle → ℕ → Type 0
Earlier e l i = (j : ℕ) × (j < i) × Among same_edge e (sides (get_or l j nowhere))

seen_sides : (e : Edge) (before l : List Triangle) (i : ℕ) → i ≤ length l → Among same_edge e (sides_of (seen repeats nowhere before l i)) → Among same_edge e (sides_of before) ⊎ Earlier e l i
seen_sides e before l zero h m = inl m
seen_sides e before [] (suc i) h m = absurd (omega arith)
seen_sides e before (t ∷ l) (suc i) h m = go (seen_sides e (t ∷ before) l i (omega arith) m)
  where
    here : Dec (1 ≤ count same_edge e (sides t)) → Among same_edge e (sides_of (t ∷ before)) → Among same_edge e (sides_of before) ⊎ Earlier e (t ∷ l) (suc i)
    here (yes y) m = inr (0, omega arith, y)
    here (no n) m = inl (omega (arith, sided e t before))

    go : Among same_edge e (sides_of (t ∷ before)) ⊎ Earlier e l i → Among same_edge e (sides_of before) ⊎ Earlier e (t ∷ l) (suc i)
    go (inl m) = here (dec_le 1 (count same_edge e (sides t))) m
    go (inr (j, k, m)) = inr (suc j, omega arith, m)

sides_kept : (e : Edge) (before l : List Triangle) (i : ℕ) → Among same_edge e (sides_of before) → Among same_edge e (sides_of (seen repeats nowhere before l i))
sides_kept e before l zero m = m
sides_kept e before [] (suc i) m = m
sides_kept e before (t ∷ l) (suc i) m = sides_kept e (t ∷ before) l i (omega (arith, sided e t before))

sides_seen : (e : Edge) (before l : List Triangle) (i : ℕ) → i ≤ length l → Earlier e l i → Among same_edge e (sides_of (seen repeats nowhere before l i))
sides_seen e before l zero h (j, k, m) = absurd (omega arith)
sides_seen e before [] (suc i) h (j, k, m) = absurd (omega arith)
sides_seen e before (t ∷ l) (suc i) h (zero, k, m) = sides_kept e (t ∷ before) l i (omega (arith, sided e t before))
sides_seen e before (t ∷ l) (suc i) h (suc j, k, m) = sides_seen e (t ∷ before) l i (omega arith) (j, omega arith, m)

repeats_side : (table : List Triangle) (i : ℕ) → i < length table → T (repeats (seen repeats nowhere [] table i) (get_or table i nowhere)) ↔ RepeatsSide table (suc i)
unfolding flat_map
repeats_side table i h = (to, from)
  where
    before : List Triangle
    before = seen repeats nowhere [] table i

    -- Triangle i, counted from 0, is number i + 1.
    here : triangle table (suc i) ≡ get_or table i nowhere
    here = ap (λ k. get_or table k nowhere) (omega arith)

    none_yet : (e : Edge) → Among same_edge e (sides_of []) → ⊥
    none_yet e m = omega arith

    to : T (repeats before (get_or table i nowhere)) → RepeatsSide table (suc i)
    to t =
        let (e, m, u) = (any_among (λ e. any (same_edge e) (sides_of before)) (sides (get_or table i nowhere))).0 t in
        let (d, n, v) = (any_among (same_edge e) (sides_of before)).0 u in
        go e m (seen_sides e [] table i (omega arith) (subst (λ d. Among same_edge d (sides_of before)) (sym (same_edge-eq e d v)) n))
      where
        go : (e : Edge) → Among same_edge e (sides (get_or table i nowhere)) → Among same_edge e (sides_of []) ⊎ Earlier e table i → RepeatsSide table (suc i)
        go e m (inl a) = absurd (none_yet e a)
        go e m (inr (j, k, a)) = (suc j, omega arith, omega arith, e, subst (λ l. Among same_edge e (sides (get_or table l nowhere))) (omega arith) a, subst (λ t. Among same_edge e (sides t)) (sym here) m)

    from : RepeatsSide table (suc i) → T (repeats before (get_or table i nowhere))
    from (zero, low, k, e, a, m) = absurd (omega arith)
    from (suc j, low, k, e, a, m) =
        let l : suc j - 1 ≡ j = omega arith in
        let b = subst (λ l. Among same_edge e (sides (get_or table l nowhere))) l a in
        (any_among (λ e. any (same_edge e) (sides_of before)) (sides (get_or table i nowhere))).1
        (e, subst (λ t. Among same_edge e (sides t)) here m, (any_among (same_edge e) (sides_of before)).1 (e, sides_seen e [] table i (omega arith) (j, omega arith, b), same_edge-refl e))

-- ---- the three refusals
module _ (table : List Triangle) where
  -- "10: rule A, first such triangle."
  pub refused_a : (k : ℕ) → (check_table (frame_edges table) table ≡ refused 10 k) ↔ First NoArea table k
  refused_a k = (
    λ e. elim ((refused_as (frame_edges table) table 10 k).0 e) [
      | inl a ↦ first_of flat NoArea table (no_area table) k a.1
      | inr (inl b) ↦ absurd (omega (arith, b.0))
      | inr (inr c) ↦ absurd (omega (arith, c.0))
    ],
    λ f. (refused_as (frame_edges table) table 10 k).1 (inl (refl, (first_fault_lem flat [] table k).0 (first_is flat NoArea table (no_area table) k f))),
  )

  -- "11: rule B, first triangle with a side of an earlier one."
  pub refused_b : (k : ℕ) → (check_table (frame_edges table) table ≡ refused 11 k) ↔ (RuleA table × First RepeatsSide table k)
  refused_b k = (
    λ e. elim ((refused_as (frame_edges table) table 11 k).0 e) [
      | inl a ↦ absurd (omega (arith, a.0))
      | inr (inl b) ↦ (b.1, first_of repeats RepeatsSide table (repeats_side table) k b.2)
      | inr (inr c) ↦ absurd (omega (arith, c.0))
    ],
    λ (a, f). (refused_as (frame_edges table) table 11 k).1 (inr (inl (refl, a, (first_fault_lem repeats [] table k).0 (first_is repeats RepeatsSide table (repeats_side table) k f)))),
  )

  -- "12: rule C, 0."
  pub refused_c : (k : ℕ) → (check_table (frame_edges table) table ≡ refused 12 k) ↔ ((k ≡ 0) × RuleA table × RuleB table × (RuleC (frame_edges table) table → ⊥))
  refused_c k = (
    λ e. elim ((refused_as (frame_edges table) table 12 k).0 e) [ inl a ↦ absurd (omega (arith, a.0)) | inr (inl b) ↦ absurd (omega (arith, b.0)) | inr (inr c) ↦ (c.1, c.2, c.3, c.4) ],
    λ (z, a, b, n). (refused_as (frame_edges table) table 12 k).1 (inr (inr (refl, z, a, b, n))),
  )
