-- The sides met triangle by triangle are those of the marked triangles, in another order: they touch the same numbers, each with the same shared length. The idea: with one
-- more triangle marked, the sum over all sides of the table grows by that triangle's three. Assumes nothing.
use mathlib.Core.Path.{◌≡◌, refl, sym, ◌∙◌, ap, ap₂, subst}
use mathlib.Core.Logic.{◌↔◌, inl, inr}
use mathlib.Core.Bool.{Bool, true, false, cond, ◌||◌}
use mathlib.Core.List.{List, [], ◌∷◌, map}
use Prim.Native.Nat.{ℕ, zero, suc, ◌+◌, ◌-◌, ◌*◌, ◌/◌, ◌≤◌, ◌<◌}
use native.Mathlib.Omega.{arith}
use native.Mathlib.Decide.{ℕ_discrete}
use borrow.Author.Tests.{eqb-true, eqb-false, eq-eqb, ne_eqb}
use lib.Dec.{eqb}
use lib.ListN.{length, get_or}
use Rattle.whole.specs.Sums.{passing}
use Rattle.repair_regions.specs.Regions.{from}
use Rattle.repair_regions.proofs.Regions.{not_both, failed, same_test}
use Rattle.repair_choices.specs.Choices.{total, across, sides_in, touched, shared, longest}
use Rattle.repair_choices.specs.Choosing.{In, Favoured}
use Rattle.repair_choices.specs.Adding.{Marked, sides_met}
use Rattle.repair_choices.proofs.Largest.{side_of}
use Rattle.repair_choices.proofs.Longest.{touched_is, favoured_is, only_favoured, favoured_same}

-- ---- sums over lists
-- What passes a test, added up, is all of the list with 0 for what doesn't.
total_passing : (f : ℕ → ℕ) (test : ℕ → Bool) (l : List ℕ) → total (map f (passing test l)) ≡ total (map (λ k. cond (test k) (f k) 0) l)
total_passing f test [] = refl
total_passing f test (k ∷ l) = go (test k) (total_passing f test l)
  where
    go : (b : Bool) → total (map f (passing test l)) ≡ total (map (λ k. cond (test k) (f k) 0) l)
        → total (map f (cond b (k ∷ passing test l) (passing test l))) ≡ cond b (f k) 0 + total (map (λ k. cond (test k) (f k) 0) l)
    go true r = ap (λ n. f k + n) r
    go false r = omega arith

total_same : (f g : ℕ → ℕ) (i n : ℕ) → ((k : ℕ) → i ≤ k → k < i + n → f k ≡ g k) → total (map f (from i n)) ≡ total (map g (from i n))
total_same f g i zero e = refl
total_same f g i (suc n) e = ap₂ ◌+◌ (e i (omega arith) (omega arith)) (total_same f g (suc i) n (λ k a b. e k (omega arith) (omega arith)))

-- Three sides a triangle.
total_three : (f : ℕ → ℕ) (i n : ℕ) → total (map f (from (3 * i) (3 * n))) ≡ total (map (λ t. f (3 * t) + (f (3 * t + 1) + f (3 * t + 2))) (from i n))
total_three f i zero = refl
total_three f i (suc n) =
    let a : 3 * suc n ≡ suc (suc (suc (3 * n))) = omega arith in
    let b : suc (suc (suc (3 * i))) ≡ 3 * suc i = omega arith in
    let c : suc (3 * i) ≡ 3 * i + 1 = omega arith in
    let d : suc (suc (3 * i)) ≡ 3 * i + 2 = omega arith in
    let r = total_three f (suc i) n in
    let w : total (map f (from (suc (suc (suc (3 * i)))) (3 * n))) ≡ total (map (λ t. f (3 * t) + (f (3 * t + 1) + f (3 * t + 2))) (from (suc i) n)) = ap (λ x. total (map f (from x (3 * n)))) b ∙ r in
    ap (λ x. total (map f (from (3 * i) x))) a ∙ omega (arith, w, ap f c, ap f d)

-- One of the numbers stands for d more.
module _ (f g : ℕ → ℕ) (u d : ℕ) (more : g u ≡ f u + d) (same : (t : ℕ) → (t ≡ u → ⊥) → g t ≡ f t) where
  total_more : (i n : ℕ) → i ≤ u → u < i + n → total (map g (from i n)) ≡ total (map f (from i n)) + d
  total_more i zero a b = absurd (omega arith)
  total_more i (suc n) a b = go (ℕ_discrete i u) (λ s. total_more (suc i) n (omega arith) (omega arith))
    where
      rest : u < suc i → total (map g (from (suc i) n)) ≡ total (map f (from (suc i) n))
      rest h = total_same g f (suc i) n (λ k l m. same k (λ e. omega arith))

      go : Dec (i ≡ u) → ((i ≡ u → ⊥) → total (map g (from (suc i) n)) ≡ total (map f (from (suc i) n)) + d) → total (map g (from i (suc n))) ≡ total (map f (from i (suc n))) + d
      go (yes s) r = omega (arith, rest (omega arith), ap g s, ap f s, more)
      go (no s) r = omega (arith, same i s, r s)

-- ---- the sides met
module _ (group : List ℕ) (first : ℕ) where
  -- A side of one of the first c triangles met.
  abbrev OfMet : ℕ → ℕ → Type 0
  OfMet c k = (j : ℕ) × (j < c) × (k / 3 ≡ get_or group (first + j) 0)

  -- They are those of the triangles met.
  met_side : (c k : ℕ) → In k (sides_met group first c) ↔ OfMet c k
  met_side zero k = (λ i. absurd i, λ (j, h, e). absurd (omega arith))
  met_side (suc c) k = let before = met_side c k in (to before.0, from_there before.1)
    where
      u : ℕ
      u = get_or group (first + c) 0

      to : (In k (sides_met group first c) → OfMet c k) → In k (sides_met group first (suc c)) → OfMet (suc c) k
      to before (inl e) = (c, omega arith, omega arith)
      to before (inr (inl e)) = (c, omega arith, omega arith)
      to before (inr (inr (inl e))) = (c, omega arith, omega arith)
      to before (inr (inr (inr i))) = let (j, h, e) = before i in (j, omega arith, e)

      from_there : (OfMet c k → In k (sides_met group first c)) → OfMet (suc c) k → In k (sides_met group first (suc c))
      from_there before (j, h, e) = go (ℕ_discrete j c) (ℕ_discrete k (3 * u)) (ℕ_discrete k (3 * u + 1))
        where
          go : Dec (j ≡ c) → Dec (k ≡ 3 * u) → Dec (k ≡ 3 * u + 1) → In k (sides_met group first (suc c))
          go (no s) a b = inr (inr (inr (before (j, omega arith, e))))
          go (yes s) (yes a) b = inr (inr (inl (sym a)))
          go (yes s) (no a) (yes b) = inr (inl (sym b))
          go (yes s) (no a) (no b) = let q : k / 3 ≡ u = e ∙ ap (λ j. get_or group (first + j) 0) s in inl (omega arith)

  -- A triangle is one of those met.
  abbrev met : ℕ → ℕ → Bool
  met zero u = false
  met (suc c) u = eqb u (get_or group (first + c) 0) || met c u

  met_is : (c u : ℕ) → (met c u ≡ true) ↔ ((j : ℕ) × (j < c) × (get_or group (first + j) 0 ≡ u))
  met_is zero u = (λ e. absurd (not_both false refl e), λ (j, h, e). absurd (omega arith))
  met_is (suc c) u = (to (eqb u (get_or group (first + c) 0)) refl (met_is c u), from_there (eqb u (get_or group (first + c) 0)) refl (met_is c u))
    where
      to : (b : Bool) → eqb u (get_or group (first + c) 0) ≡ b → (met c u ≡ true) ↔ ((j : ℕ) × (j < c) × (get_or group (first + j) 0 ≡ u)) → b || met c u ≡ true → (j : ℕ) × (j < suc c) × (get_or group (first + j) 0 ≡ u)
      to true e r t = (c, omega arith, sym (eqb-true u (get_or group (first + c) 0) e))
      to false e r t = let (j, h, q) = r.0 t in (j, omega arith, q)

      from_there : (b : Bool) → eqb u (get_or group (first + c) 0) ≡ b → (met c u ≡ true) ↔ ((j : ℕ) × (j < c) × (get_or group (first + j) 0 ≡ u)) → (j : ℕ) × (j < suc c) × (get_or group (first + j) 0 ≡ u) → b || met c u ≡ true
      from_there true e r t = refl
      from_there false e r (j, h, q) = elim (ℕ_discrete j c) [
        | yes s ↦ absurd (eqb-false u (get_or group (first + c) 0) e (sym q ∙ ap (λ j. get_or group (first + j) 0) s))
        | no s ↦ r.1 (j, omega arith, q)
      ]

-- ---- the shared lengths
module _ (lengths opposite numbers : List ℕ) (m : ℕ) where
  -- What side k has a share of in the shared length of number m, and what triangle t has.
  abbrev part : ℕ → ℕ
  part k = cond (eqb (across opposite numbers k) m) (get_or lengths k 0) 0

  abbrev parts : ℕ → ℕ
  parts t = part (3 * t) + (part (3 * t + 1) + part (3 * t + 2))

  pub shared_parts : (sides : List ℕ) → shared lengths opposite numbers sides m ≡ total (map (λ k. cond (eqb (across opposite numbers k) m) (get_or lengths k 0) 0) sides)
  shared_parts sides = total_passing (λ k. get_or lengths k 0) (λ k. eqb (across opposite numbers k) m) sides

  -- The marked triangles of n, by a test.
  abbrev marked : (ℕ → Bool) → ℕ → ℕ
  marked test n = total (map (λ t. cond (test t) (parts t) 0) (from 0 n))

  three : (b : Bool) (x y z : ℕ) → cond b x 0 + (cond b y 0 + cond b z 0) ≡ cond b (x + (y + z)) 0
  three true x y z = refl
  three false x y z = refl

  -- The sides of marked triangles,
  shared_marked : (marks : List Bool) (n : ℕ) → length opposite ≡ 3 * n → shared lengths opposite numbers (sides_in opposite numbers marks) m ≡ marked (λ t. get_or marks t false) n
  shared_marked marks n e =
      shared_parts (sides_in opposite numbers marks)
      ∙ total_passing part (λ k. get_or marks (k / 3) false) (from 0 (length opposite))
      ∙ ap (λ l. total (map side (from 0 l))) e
      ∙ total_three side 0 n
      ∙ total_same (λ t. side (3 * t) + (side (3 * t + 1) + side (3 * t + 2))) (λ t. cond (get_or marks t false) (parts t) 0) 0 n (λ t a b. at t)
    where
      side : ℕ → ℕ
      side k = cond (get_or marks (k / 3) false) (part k) 0

      at : (t : ℕ) → side (3 * t) + (side (3 * t + 1) + side (3 * t + 2)) ≡ cond (get_or marks t false) (parts t) 0
      at t =
          let a : 3 * t / 3 ≡ t = omega arith in
          let b : (3 * t + 1) / 3 ≡ t = omega arith in
          let c : (3 * t + 2) / 3 ≡ t = omega arith in
          rw (a, b, c) (three (get_or marks t false) (part (3 * t)) (part (3 * t + 1)) (part (3 * t + 2)))

  module _ (group : List ℕ) (first : ℕ) (n : ℕ) where
    -- and the sides met.
    shared_met : (c : ℕ) → ((j : ℕ) → j < c → get_or group (first + j) 0 < n) → ((i j : ℕ) → i < j → j < c → get_or group (first + i) 0 ≡ get_or group (first + j) 0 → ⊥)
        → shared lengths opposite numbers (sides_met group first c) m ≡ marked (met group first c) n
    shared_met zero within once = sym (none 0 n)
      where
        none : (i n : ℕ) → total (map (λ t. cond {A = ℕ} false (parts t) 0) (from i n)) ≡ 0
        none i zero = refl
        none i (suc n) = omega (arith, none (suc i) n)
    shared_met (suc c) within once =
        let u = get_or group (first + c) 0 in
        let free : met group first c u ≡ false = failed (met group first c u) (λ t. let (j, h, e) = (met_is group first c u).0 t in once j c h (omega arith) e) in
        let on : cond (met group first (suc c) u) (parts u) 0 ≡ parts u = ap (λ b. cond (b || met group first c u) (parts u) 0) (eq-eqb u u refl) in
        let off : cond (met group first c u) (parts u) 0 ≡ 0 = ap (λ b. cond b (parts u) 0) free in
        let before = shared_met c (λ j h. within j (omega arith)) (λ i j a b. once i j a (omega arith)) in
        let more = total_more (λ t. cond (met group first c t) (parts t) 0) (λ t. cond (met group first (suc c) t) (parts t) 0) u (parts u)
        (omega (arith, on, off))
        (λ t s. ap (λ b. cond (b || met group first c t) (parts t) 0) (ne_eqb t u s)) 0 n (omega arith) (omega (arith, within c (omega arith))) in
        omega (arith, shared_parts (sides_met group first (suc c)), shared_parts (sides_met group first c), before, more)

-- ---- the choice for marked triangles, by the sides met
module _ {group : List ℕ} {first n : ℕ} {marks : List Bool} (is : Marked group first n marks) (lengths opposite numbers : List ℕ) (triangles : ℕ) (three-each : length opposite ≡ 3 * triangles)
    (within : (j : ℕ) → j < n → get_or group j 0 < triangles) (from_First : first ≤ n) where
  abbrev all_met : List ℕ
  all_met = sides_met group first (n - first)

  -- The sides are the same,
  same_sides : (k : ℕ) → In k (sides_in opposite numbers marks) ↔ In k (sides_met group first (n - first))
  same_sides k = (
    λ i.
        let (h, t) = (side_of opposite numbers marks k).0 i in
        let (j, a, b, e) = is.by (k / 3) t in
        let q : first + (j - first) ≡ j = omega arith in
        (met_side group first (n - first) k).1 (j - first, omega arith, sym (ap (λ j. get_or group j 0) q ∙ e)),
    λ i.
        let (j, h, e) = (met_side group first (n - first) k).0 i in
        let w = within (first + j) (omega arith) in
        (side_of opposite numbers marks k).1 (omega arith, subst (λ u. get_or marks u false ≡ true) (sym e) (is.own (first + j) (omega arith) (omega arith))),
  )

  -- touch the same numbers,
  same_touched : (m : ℕ) → In m (touched opposite numbers (sides_in opposite numbers marks)) ↔ In m (touched opposite numbers (sides_met group first (n - first)))
  same_touched m =
      let a = touched_is opposite numbers (sides_in opposite numbers marks) m in
      let b = touched_is opposite numbers (sides_met group first (n - first)) m in (
        λ i. let (z, k, j, e) = a.0 i in b.1 (z, k, (same_sides k).0 j, e),
        λ i. let (z, k, j, e) = b.0 i in a.1 (z, k, (same_sides k).1 j, e),
      )

  -- with the same shared lengths,
  same_shared : (m : ℕ) → shared lengths opposite numbers (sides_in opposite numbers marks) m ≡ shared lengths opposite numbers (sides_met group first (n - first)) m
  same_shared m =
      shared_marked lengths opposite numbers m marks triangles three-each
      ∙ total_same (λ t. cond (get_or marks t false) (parts lengths opposite numbers m t) 0) (λ t. cond (met group first (n - first) t) (parts lengths opposite numbers m t) 0) 0 triangles
      (λ t a b. ap (λ b. cond b (parts lengths opposite numbers m t) 0) (marked_met t))
      ∙ sym (shared_met lengths opposite numbers m group first triangles (n - first) (λ j h. within (first + j) (omega arith)) (λ i j a b. is.once (first + i) (first + j) (omega arith) (omega arith)))
    where
      marked_met : (t : ℕ) → get_or marks t false ≡ met group first (n - first) t
      marked_met t = same_test (get_or marks t false) (met group first (n - first) t)
          (λ s. let (j, a, b, e) = is.by t s in let q : first + (j - first) ≡ j = omega arith in (met_is group first (n - first) t).1 (j - first, omega arith, ap (λ j. get_or group j 0) q ∙ e))
          (λ s. let (j, h, e) = (met_is group first (n - first) t).0 s in subst (λ u. get_or marks u false ≡ true) e (is.own (first + j) (omega arith) (omega arith)))

  -- so that the number favoured by them is the choice.
  pub met_longest : (r : ℕ) → Favoured lengths opposite numbers (sides_met group first (n - first)) r → r ≡ longest lengths opposite numbers marks
  met_longest r f =
      let sides = sides_in opposite numbers marks in
      only_favoured lengths opposite numbers sides r (longest lengths opposite numbers marks) (favoured_same all_met sides same_touched same_shared r f) (favoured_is lengths opposite numbers sides)
