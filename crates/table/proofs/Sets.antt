-- A set of triangles is told by its boundary. In a table with rules A and B: a set with no boundary is empty, two sets with the same
-- boundary are the same set, and marks that spread from the sides without a reverse and across shared sides reach every triangle.
-- The idea: the areas of a set with no boundary add up to 0 by the edge-sum law, and each is above 0; and what two sets with the same
-- boundary have apart has no boundary, since by rule B the sides don't get mixed up. Assumes nothing.
use mathlib.Core.Path.{◌≡◌, refl, sym, ap}
use mathlib.Core.Bool.{Bool, true, false, not, ◌&&◌}
use mathlib.Core.List.{List, [], ◌∷◌, map, flat_map}
use Prim.Native.Nat.{ℕ, ◌+◌, ◌≤◌}
use native.Mathlib.Omega.{arith}
use native.Mathlib.Decide.{ℕ_discrete}
use lib.IntN.{ℤ, pos, ◌+ℤ◌}
use lib.Signed.{◌≤ℤ◌, ◌<ℤ◌, ≤ℤ_refl}
use lib.ListN.{length}
use Rattle.whole.specs.Sums.{All, Among, sum, count, net}
use Rattle.whole.proofs.Int.{zify, ints, parts}
use Rattle.whole.proofs.Sums.{count-++}
use Rattle.plane.specs.Points.{Edge, Triangle, flip, same_edge, double, sides}
use Rattle.plane.specs.Boundaries.{SameBoundary, sides_of}
use Rattle.plane.proofs.Points.{same_edge-eq, same_edge-refl}
use Rattle.plane.proofs.Boundaries.{areas}
use Rattle.table.specs.Table.{RuleA, RuleB}
use Rattle.table.specs.Sets.{SetOf, chosen}
use Rattle.table.specs.Sides.{NoBoundary, Closed}

-- ---- a set without a boundary is empty
positive : (l : List Triangle) → RuleA l → pos 0 ≤ℤ sum double l
positive [] h = ≤ℤ_refl (pos 0)
positive (t ∷ l) h = add (double t) (sum double l) h.0 (positive l h.1)
  where
    add : (z w : ℤ) → pos 0 <ℤ z → pos 0 ≤ℤ w → pos 0 ≤ℤ (z +ℤ w)
    add z w h k = rw (parts z, parts w) (simp zify (omega (arith, ints)))

-- Some triangles of double area above 0 have one together.
pub sum_above : (l : List Triangle) → RuleA l → (l ≡ [] → ⊥) → pos 0 <ℤ sum double l
sum_above [] h n = absurd (n refl)
sum_above (t ∷ l) h n = add (double t) (sum double l) h.0 (positive l h.1)
  where
    add : (z w : ℤ) → pos 0 <ℤ z → pos 0 ≤ℤ w → pos 0 <ℤ (z +ℤ w)
    add z w h k = rw (parts z, parts w) (simp zify (omega (arith, ints)))

-- Triangles of double area above 0 whose boundary is zero everywhere are none.
pub closed_empty : (l : List Triangle) → RuleA l → NoBoundary (sides_of l) → l ≡ []
unfolding net
closed_empty [] h k = refl
closed_empty (t ∷ l) h k = absurd (no_sum (double t) (sum double l) h.0 (positive l h.1) (areas (t ∷ l) [] k))
  where
    no_sum : (z w : ℤ) → pos 0 <ℤ z → pos 0 ≤ℤ w → z +ℤ w ≡ pos 0 → ⊥
    no_sum z w h k e = omega (arith, ints, simp zify at (rw (parts z, parts w) at e))

-- ---- counting over the marked members of a list
-- The sum of a weight over a list.
unfoldable pub tally : {A : Type 0} → (A → ℕ) → List A → ℕ
tally w [] = 0
tally w (a ∷ l) = w a + tally w l

pub count_tally : (e : Edge) (l : List Triangle) → count same_edge e (sides_of l) ≡ tally (λ t. count same_edge e (sides t)) l
unfolding tally flat_map
count_tally e [] = refl
count_tally e (t ∷ l) = omega (arith, count_tally e l, count-++ same_edge same_edge-eq same_edge-refl e (sides t) (flat_map sides l))

-- The marks of s that t has not.
abbrev without : List Bool → List Bool → List Bool
without [] t = []
without (b ∷ s) [] = []
without (b ∷ s) (c ∷ t) = (b && not c) ∷ without s t

apart : {A : Type 0} (w : A → ℕ) (l : List A) (s t : List Bool) → length s ≡ length t
    → (tally w (chosen l s) + tally w (chosen l (without t s)) ≡ tally w (chosen l t) + tally w (chosen l (without s t)))
    × (tally w (chosen l (without s t)) + tally w (chosen l (without t s)) ≤ tally w l)
unfolding tally
apart w [] s t e = omega arith
apart w (a ∷ l) [] [] e = omega arith
apart w (a ∷ l) [] (c ∷ t) e = absurd (omega arith)
apart w (a ∷ l) (b ∷ s) [] e = absurd (omega arith)
apart w (a ∷ l) (true ∷ s) (true ∷ t) e = let h = apart w l s t (omega arith) in omega arith
apart w (a ∷ l) (true ∷ s) (false ∷ t) e = let h = apart w l s t (omega arith) in omega arith
apart w (a ∷ l) (false ∷ s) (true ∷ t) e = let h = apart w l s t (omega arith) in omega arith
apart w (a ∷ l) (false ∷ s) (false ∷ t) e = let h = apart w l s t (omega arith) in omega arith

pub split : {A : Type 0} (w : A → ℕ) (l : List A) (s : List Bool) → length s ≡ length l → tally w (chosen l s) + tally w (chosen l (map not s)) ≡ tally w l
unfolding tally
split w [] s e = omega arith
split w (a ∷ l) [] e = absurd (omega arith)
split w (a ∷ l) (true ∷ s) e = omega (arith, split w l s (omega arith))
split w (a ∷ l) (false ∷ s) e = omega (arith, split w l s (omega arith))

-- What holds of each member of a list holds of each marked one.
pub all_chosen : {A : Type 0} (P : A → Type 0) (l : List A) (s : List Bool) → All P l → All P (chosen l s)
all_chosen P [] s h = tt
all_chosen P (a ∷ l) [] h = tt
all_chosen P (a ∷ l) (true ∷ s) h = (h.0, all_chosen P l s h.1)
all_chosen P (a ∷ l) (false ∷ s) h = all_chosen P l s h.1

-- ---- from no member chosen to the marks
none_apart : {A : Type 0} (l : List A) (s t : List Bool) → length s ≡ length l → length t ≡ length l → chosen l (without s t) ≡ [] → chosen l (without t s) ≡ [] → s ≡ t
none_apart [] [] [] h k p q = refl
none_apart [] [] (c ∷ t) h k p q = absurd (omega arith)
none_apart [] (b ∷ s) t h k p q = absurd (omega arith)
none_apart (a ∷ l) [] t h k p q = absurd (omega arith)
none_apart (a ∷ l) (b ∷ s) [] h k p q = absurd (omega arith)
none_apart (a ∷ l) (true ∷ s) (true ∷ t) h k p q = ap (λ r. true ∷ r) (none_apart l s t (omega arith) (omega arith) p q)
none_apart (a ∷ l) (true ∷ s) (false ∷ t) h k p q = cc
none_apart (a ∷ l) (false ∷ s) (true ∷ t) h k p q = cc
none_apart (a ∷ l) (false ∷ s) (false ∷ t) h k p q = ap (λ r. false ∷ r) (none_apart l s t (omega arith) (omega arith) p q)

pub none_marked : {A : Type 0} (l : List A) (s : List Bool) → length s ≡ length l → chosen l s ≡ [] → All (λ b. b ≡ false) s
none_marked [] [] e h = tt
none_marked [] (b ∷ s) e h = absurd (omega arith)
none_marked (a ∷ l) [] e h = tt
none_marked (a ∷ l) (true ∷ s) e h = absurd (let z : ◌≡◌ {A = ℕ} 0 1 = cc in omega arith)
none_marked (a ∷ l) (false ∷ s) e h = (refl, none_marked l s (omega arith) h)

pub none_left : {A : Type 0} (l : List A) (s : List Bool) → length s ≡ length l → chosen l (map not s) ≡ [] → All (λ b. b ≡ true) s
none_left [] [] e h = tt
none_left [] (b ∷ s) e h = absurd (omega arith)
none_left (a ∷ l) [] e h = tt
none_left (a ∷ l) (true ∷ s) e h = (refl, none_left l s (omega arith) h)
none_left (a ∷ l) (false ∷ s) e h = absurd (let z : ◌≡◌ {A = ℕ} 0 1 = cc in omega arith)

-- ---- the theorems, for a table with rules A and B
module _ (table : List Triangle) (area : RuleA table) (once : RuleB table) where
  abbrev # : Edge → List Bool → ℕ
  # e s = count same_edge e (sides_of (chosen table s))

  -- How often e is a side of a marked triangle and of one that is not.
  pub both : (s : List Bool) → SetOf table s → (e : Edge) → # e s + # e (map not s) ≡ count same_edge e (sides_of table)
  both s l e =
      omega (
        arith,
        split (λ t. count same_edge e (sides t)) table s l,
        count_tally e (chosen table s),
        count_tally e (chosen table (map not s)),
        count_tally e table,
      )

  -- A set of triangles with zero boundary is empty.
  pub zero_empty : (s : List Bool) → SetOf table s → NoBoundary (sides_of (chosen table s)) → All (λ b. b ≡ false) s
  zero_empty s l h = none_marked table s l (closed_empty (chosen table s) (all_chosen (λ t. pos 0 <ℤ double t) table s area) h)

  pub zero_full : (s : List Bool) → SetOf table s → NoBoundary (sides_of (chosen table (map not s))) → All (λ b. b ≡ true) s
  zero_full s l h = none_left table s l (closed_empty (chosen table (map not s)) (all_chosen (λ t. pos 0 <ℤ double t) table (map not s) area) h)

  apart_count : (s t : List Bool) → length s ≡ length t → (e : Edge)
      → (# e s + # e (without t s) ≡ # e t + # e (without s t)) × (# e (without s t) + # e (without t s) ≤ 1)
  apart_count s t l e =
      omega (
        arith,
        apart (λ t. count same_edge e (sides t)) table s t l,
        count_tally e (chosen table s),
        count_tally e (chosen table t),
        count_tally e (chosen table (without s t)),
        count_tally e (chosen table (without t s)),
        count_tally e table,
        once e,
      )

  apart_empty : (s t : List Bool) → length s ≡ length t → SameBoundary (sides_of (chosen table s)) (sides_of (chosen table t)) → chosen table (without s t) ≡ []
  unfolding net
  apart_empty s t l h = closed_empty (chosen table (without s t)) (all_chosen (λ t. pos 0 <ℤ double t) table (without s t) area)
      (λ e. simp zify (omega (arith, simp zify at (h e), apart_count s t l e, apart_count s t l (flip e))))

  -- Two sets of triangles with the same boundary are the same set.
  pub one_set : (s t : List Bool) → SetOf table s → SetOf table t → SameBoundary (sides_of (chosen table s)) (sides_of (chosen table t)) → s ≡ t
  one_set s t k l h = none_apart table s t k l (apart_empty s t (omega arith) h) (apart_empty t s (omega arith) (λ e. sym (h e)))

  -- ---- marks that spread reach every triangle
  -- Marked: each triangle with a side whose reverse is no side of the table, and with a triangle the one across each of its sides.
  module _ (marks : List Bool) (fits : SetOf table marks)
      (starts : (e : Edge) → Among same_edge e (sides_of table) → (Among same_edge (flip e) (sides_of table) → ⊥) → Among same_edge e (sides_of (chosen table marks)))
      (spreads : Closed table marks) where
    abbrev all : Edge → ℕ
    all e = count same_edge e (sides_of table)

    under : (e : Edge) → # e (map not marks) ≤ # (flip e) (map not marks)
    under e = go (ℕ_discrete (# e (map not marks)) 0) (ℕ_discrete (all (flip e)) 0) (ℕ_discrete (# (flip e) marks) 0)
      where
        go : Dec (# e (map not marks) ≡ 0) → Dec (all (flip e) ≡ 0) → Dec (# (flip e) marks ≡ 0) → # e (map not marks) ≤ # (flip e) (map not marks)
        go (yes n) d f = omega arith
        go (no n) (yes p) d = absurd (omega (arith, starts e (omega (arith, both marks fits e)) (λ h. omega arith), both marks fits e, once e))
        go (no n) (no p) (yes q) = omega (arith, both marks fits e, both marks fits (flip e), once e)
        go (no n) (no p) (no q) = absurd (omega (arith, spreads (flip e) (omega arith) (omega (arith, both marks fits e)), both marks fits e, once e))

    pub all_reached : All (λ b. b ≡ true) marks
    unfolding net
    all_reached = zero_full marks fits (λ e. simp zify (omega (arith, under e, under (flip e))))
