-- What stands in a list, and the greatest of a list: it is one of them, and none is above it. Assumes nothing.
use mathlib.Core.Path.{◌≡◌, refl, sym, ◌∙◌, ap, subst}
use mathlib.Core.Logic.{◌↔◌, ◌⊎◌, inl, inr}
use mathlib.Core.Bool.{Bool, true, false, cond}
use mathlib.Core.List.{List, [], ◌∷◌, map}
use Prim.Native.Nat.{ℕ, zero, suc, ◌+◌, ◌≤◌, ◌<◌}
use native.Mathlib.Omega.{arith}
use native.Mathlib.Decide.{ℕ_discrete}
use borrow.Author.Tests.{leb-true, leb-false}
use lib.Dec.{leb}
use Rattle.whole.specs.Sums.{passing}
use Rattle.whole.proofs.Tests.{by_equal}
use Rattle.repair_regions.specs.Regions.{from}
use Rattle.repair_choices.specs.Choices.{greater, greatest}
use Rattle.repair_choices.specs.Choosing.{In}

-- ---- what stands in a list
-- What passes a test of a list stands there and passes it.
pub in_passing : (test : ℕ → Bool) (l : List ℕ) (x : ℕ) → In x (passing test l) ↔ (In x l × (test x ≡ true))
in_passing test [] x = (λ i. absurd i, λ (i, t). absurd i)
in_passing test (y ∷ l) x = go (test y) refl (in_passing test l x)
  where
    go : (b : Bool) → test y ≡ b → In x (passing test l) ↔ (In x l × (test x ≡ true)) → In x (cond b (y ∷ passing test l) (passing test l)) ↔ (((y ≡ x) ⊎ In x l) × (test x ≡ true))
    go true e r = (
      λ i. elim i [ inl s ↦ (inl s, subst (λ z. test z ≡ true) s e) | inr i ↦ let (j, t) = r.0 i in (inr j, t) ],
      λ (i, t). elim i [ inl s ↦ inl s | inr j ↦ inr (r.1 (j, t)) ],
    )
    go false e r = (
      λ i. let (j, t) = r.0 i in (inr j, t),
      λ (i, t). elim i [ inl s ↦ absurd (let z : ◌≡◌ {A = Bool} false true = sym e ∙ ap test s ∙ t in let w : ◌≡◌ {A = ℕ} 0 1 = cc z in omega arith) | inr j ↦ r.1 (j, t) ],
    )

pub in_map : (f : ℕ → ℕ) (l : List ℕ) (y : ℕ) → In y (map f l) ↔ ((x : ℕ) × In x l × (f x ≡ y))
in_map f [] y = (λ i. absurd i, λ (x, i, e). absurd i)
in_map f (x ∷ l) y =
    let r = in_map f l y in (
      λ i. elim i [ inl s ↦ (x, inl refl, s) | inr i ↦ let (z, j, e) = r.0 i in (z, inr j, e) ],
      λ (z, i, e). elim i [ inl s ↦ inl (ap f s ∙ e) | inr j ↦ inr (r.1 (z, j, e)) ],
    )

pub in_from : (i n k : ℕ) → In k (from i n) ↔ ((i ≤ k) × (k < i + n))
in_from i zero k = (λ j. absurd j, λ (a, b). omega arith)
in_from i (suc n) k =
    let r = in_from (suc i) n k in (
      λ j. elim j [ inl s ↦ (omega arith, omega arith) | inr j ↦ let (a, b) = r.0 j in (omega arith, omega arith) ],
      λ (a, b). elim (ℕ_discrete i k) [ yes s ↦ inl s | no s ↦ inr (r.1 (omega arith, omega arith)) ],
    )

-- ---- the greater of two numbers
pub greater_left : (m n : ℕ) → m ≤ greater m n
greater_left m n = by_equal (λ r. m ≤ r) (leb m n) n m (leb-true m n) (λ e. omega arith)

pub greater_right : (m n : ℕ) → n ≤ greater m n
greater_right m n = by_equal (λ r. n ≤ r) (leb m n) n m (λ e. omega arith) (λ e. omega (arith, leb-false m n e))

pub greater_one : (m n : ℕ) → (greater m n ≡ m) ⊎ (greater m n ≡ n)
greater_one m n = by_equal (λ r. (r ≡ m) ⊎ (r ≡ n)) (leb m n) n m (λ e. inr refl) (λ e. inl refl)

-- ---- the greatest of a list
-- None is above it,
pub greatest_above : (l : List ℕ) (x : ℕ) → In x l → x ≤ greatest l
greatest_above (y ∷ l) x i = elim i [ inl s ↦ omega (arith, s, greater_left y (greatest l)) | inr j ↦ omega (arith, greatest_above l x j, greater_right y (greatest l)) ]
greatest_above [] x i = elim i [ ]

-- and it is one of them, where there is one.
pub greatest_in : (l : List ℕ) (x : ℕ) → In x l → In (greatest l) l
greatest_in (y ∷ []) x i = inl (omega (arith, greater_left y 0, greatest_one y))
  where
    greatest_one : (y : ℕ) → greater y 0 ≤ y
    greatest_one y = by_equal (λ r. r ≤ y) (leb y 0) 0 y (λ e. omega arith) (λ e. omega arith)
greatest_in (y ∷ z ∷ l) x i = elim (greater_one y (greatest (z ∷ l))) [
  | inl e ↦ inl (sym e)
  | inr e ↦ inr (subst (λ g. In g (z ∷ l)) (sym e) (greatest_in (z ∷ l) z (inl refl)))
]
greatest_in [] x i = elim i [ ]
