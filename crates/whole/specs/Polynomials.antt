-- Polynomial expressions of whole numbers, their normal forms, and the test for an identity: what the ring solver computes.
use Rattle.std.specs.Prelude.{◌≡◌, Bool, true, false, List, [], ◌∷◌, ◌++◌, leb, ℤ, pos, negsuc, neg_ℤ, ◌+ℤ◌, ◌*ℤ◌, get_or}
use Prim.Native.Nat.{ℕ, zero, suc, compare, Ordering}

infixl 6 ◌:+◌ ◌:-◌
infixl 7 ◌:*◌ ◌·◌
infix 8 :-◌
infix 5 ◌:=◌
-- Polynomial expressions, with numbered variables, and their value where the variables have the values ρ.
pub data Expr : Type 0 where
  var : ℕ → Expr
  con : ℤ → Expr
  ◌:+◌ ◌:*◌ : Expr → Expr → Expr
  :-◌ : Expr → Expr

abbrev pub ◌:-◌ : Expr → Expr → Expr
e :- f = e :+ (:- f)

abbrev pub value : List ℤ → Expr → ℤ
value ρ (var i) = get_or ρ i (pos 0)
value ρ (con c) = c
value ρ (e :+ f) = value ρ e +ℤ value ρ f
value ρ (e :* f) = value ρ e *ℤ value ρ f
value ρ (:- e) = neg_ℤ (value ρ e)

-- Normal forms: a sum of terms c·m in ascending order of m, where m lists the numbers of its variables in ascending order.
pub data Poly : Type 0 where
  nil : Poly
  term : ℤ → List ℕ → Poly → Poly

abbrev pub mono : List ℤ → List ℕ → ℤ
mono ρ [] = pos 1
mono ρ (i ∷ m) = get_or ρ i (pos 0) *ℤ mono ρ m

abbrev pub poly : List ℤ → Poly → ℤ
poly ρ nil = pos 0
poly ρ (term c m p) = c *ℤ mono ρ m +ℤ poly ρ p

abbrev pub with_var : ℕ → List ℕ → List ℕ
with_var i [] = i ∷ []
with_var i (j ∷ m) = elim (leb i j) [ true ↦ i ∷ j ∷ m | false ↦ j ∷ with_var i m ]

abbrev pub ◌·◌ : List ℕ → List ℕ → List ℕ
[] · n = n
(i ∷ m) · n = with_var i (m · n)

abbrev pub order : List ℕ → List ℕ → Ordering
order [] [] = Ordering.eq
order [] (j ∷ n) = Ordering.lt
order (i ∷ m) [] = Ordering.gt
order (i ∷ m) (j ∷ n) = elim (compare i j) [ Ordering.lt ↦ Ordering.lt | Ordering.eq ↦ order m n | Ordering.gt ↦ Ordering.gt ]

-- c·m + p
abbrev pub plus : ℤ → List ℕ → Poly → Poly
plus c m nil = term c m nil
plus c m (term d n p) = elim (order m n) [ Ordering.lt ↦ term c m (term d n p) | Ordering.eq ↦ term (c +ℤ d) n p | Ordering.gt ↦ term d n (plus c m p) ]

-- c·m·p + q
abbrev pub times : ℤ → List ℕ → Poly → Poly → Poly
times c m nil q = q
times c m (term d n p) q = plus (c *ℤ d) (m · n) (times c m p q)

abbrev pub product : Poly → Poly → Poly
product nil q = nil
product (term c m p) q = times c m q (product p q)

abbrev pub normal : Expr → Poly
normal (var i) = term (pos 1) (i ∷ []) nil
normal (con c) = term c [] nil
normal (e :+ f) = times (pos 1) [] (normal e) (normal f)
normal (e :* f) = product (normal e) (normal f)
normal (:- e) = times (negsuc 0) [] (normal e) nil

abbrev pub is_zero : Poly → Bool
is_zero nil = true
is_zero (term (pos zero) m p) = is_zero p
is_zero (term (pos (suc n)) m p) = false
is_zero (term (negsuc n) m p) = false

-- A claim: two expressions are equal, whatever the values of their variables.
pub data Claim : Type 0 where
  ◌:=◌ : Expr → Expr → Claim

-- A claim with n variables to fill in; with the variables i, i + 1, .. filled in; the test that proves it; and what it says.
abbrev pub Claims : ℕ → Type 0
Claims zero = Claim
Claims (suc n) = Expr → Claims n

abbrev pub numbered : (n : ℕ) → ℕ → Claims n → Claim
numbered zero i c = c
numbered (suc n) i f = numbered n (suc i) (f (var i))

abbrev pub holds : Claim → Bool
holds (e := f) = is_zero (normal (e :- f))

abbrev pub Says : ℕ → List ℤ → Claim → Type 0
Says zero ρ (e := f) = value ρ e ≡ value ρ f
Says (suc n) ρ c = (z : ℤ) → Says n (ρ ++ (z ∷ [])) c
