-- A solver for polynomial identities of whole numbers: `solve 2 (λ a b. a :* b := b :* a) tt : (a b : ℤ) → a *ℤ b ≡ b *ℤ a`.
-- The idea: both sides are written as expressions, their difference is brought to a normal form by computation, and a normal form
-- with no coefficient but 0 has the value 0, whatever the variables' values. Assumes nothing.
use mathlib.Core.Path.{◌≡◌, refl, sym, ◌∙◌, ap, ap₂, subst}
use mathlib.Core.Bool.{Bool, true, false}
use mathlib.Core.List.{List, [], ◌∷◌, ◌++◌}
use Prim.Native.Nat.{ℕ, zero, suc, ◌*◌, compare, Ordering}
use native.Mathlib.Omega.{arith}
use lib.IntN.{ℤ, pos, negsuc, neg_ℤ, ◌+ℤ◌, ◌-ℤ◌, ◌*ℤ◌, +ℤ_idl, +ℤ_idr, *ℤ-zero, zero-*ℤ, *ℤ_comm, -ℤ-+ℤ_cancel}
use lib.Dec.{T, leb, eqb→eq, compare_is_eq}
use lib.ListN.{get_or}
use Rattle.whole.specs.Polynomials.{Expr, var, con, ◌:+◌, ◌:-◌, ◌:*◌, :-◌, value, Poly, nil, term, mono, poly, with_var, ◌·◌, order, plus, times, product, normal, is_zero, Claim, ◌:=◌, Claims, numbered, holds, Says}
use Rattle.whole.proofs.Int.{parts, zify, *_assoc, *_dist, one-*}

-- ---- soundness
swap : (a b c : ℤ) → a *ℤ (b *ℤ c) ≡ b *ℤ (a *ℤ c)
swap a b c = rw (parts a, parts b, parts c) (simp zify (omega arith))

swap+ : (a b c : ℤ) → a +ℤ (b +ℤ c) ≡ b +ℤ (a +ℤ c)
swap+ a b c = rw (parts a, parts b, parts c) (simp zify (omega arith))

gather : (c d m p : ℤ) → (c +ℤ d) *ℤ m +ℤ p ≡ c *ℤ m +ℤ (d *ℤ m +ℤ p)
gather c d m p = rw (parts c, parts d, parts m, parts p) (simp zify (omega arith))

expand : (c d m n p q : ℤ) → c *ℤ d *ℤ (m *ℤ n) +ℤ (c *ℤ m *ℤ p +ℤ q) ≡ c *ℤ m *ℤ (d *ℤ n +ℤ p) +ℤ q
expand c d m n p q = rw (exchange c d m n) (undist (c *ℤ m) (d *ℤ n) p q)
  where
    exchange : (c d m n : ℤ) → c *ℤ d *ℤ (m *ℤ n) ≡ c *ℤ m *ℤ (d *ℤ n)
    exchange c d m n = rw (parts c, parts d, parts m, parts n) (simp zify (omega arith))

    undist : (a b p q : ℤ) → a *ℤ b +ℤ (a *ℤ p +ℤ q) ≡ a *ℤ (b +ℤ p) +ℤ q
    undist a b p q = rw (parts a, parts b, parts p, parts q) (simp zify (omega arith))

*-one : (a : ℤ) → a *ℤ pos 1 ≡ a
*-one a = *ℤ_comm a (pos 1) ∙ one-* a

minus : (a : ℤ) → negsuc 0 *ℤ pos 1 *ℤ a ≡ neg_ℤ a
minus (pos n) = ap (λ k. neg_ℤ (pos k)) (one_times n)
  where
    one_times : (k : ℕ) → 1 * k ≡ k
    one_times k = omega arith
minus (negsuc n) = ap pos (omega arith)

zero-*+ : (a b : ℤ) → a *ℤ pos 0 +ℤ b ≡ b
zero-*+ a b = rw (*ℤ-zero a) (+ℤ_idl b)

unit : (a : ℤ) → pos 1 *ℤ (a *ℤ pos 1) +ℤ pos 0 ≡ a
unit a = +ℤ_idr _ ∙ one-* _ ∙ *-one a

pub difference : (a b : ℤ) → a -ℤ b ≡ pos 0 → a ≡ b
difference a b e = sym (-ℤ-+ℤ_cancel a b) ∙ ap (λ z. z +ℤ b) e ∙ +ℤ_idl b

order_eq : (m n : List ℕ) → order m n ≡ Ordering.eq → m ≡ n
order_eq [] [] e = refl
order_eq [] (j ∷ n) e = cc
order_eq (i ∷ m) [] e = cc
order_eq (i ∷ m) (j ∷ n) e = go (compare i j) refl e (order_eq m n)
  where
    go : (o : Ordering) → compare i j ≡ o → elim o [ Ordering.lt ↦ Ordering.lt | Ordering.eq ↦ order m n | Ordering.gt ↦ Ordering.gt ] ≡ Ordering.eq → (order m n ≡ Ordering.eq → m ≡ n) → i ∷ m ≡ j ∷ n
    go Ordering.lt c e h = cc
    go Ordering.eq c e h = ap₂ ◌∷◌ (eqb→eq i j (subst (λ (o : Ordering). T (compare_is_eq o)) (sym c) tt)) (h e)
    go Ordering.gt c e h = cc

module _ (ρ : List ℤ) where
  abbrev x : ℕ → ℤ
  x i = get_or ρ i (pos 0)

  with_var-is : (i : ℕ) (m : List ℕ) → mono ρ (with_var i m) ≡ x i *ℤ mono ρ m
  with_var-is i [] = refl
  with_var-is i (j ∷ m) = go (with_var-is i m) (leb i j)
    where
      go : mono ρ (with_var i m) ≡ x i *ℤ mono ρ m → (b : Bool) → mono ρ (elim b [ true ↦ i ∷ j ∷ m | false ↦ j ∷ with_var i m ]) ≡ x i *ℤ (x j *ℤ mono ρ m)
      go h true = refl
      go h false = rw h (swap (x j) (x i) (mono ρ m))

  ·_is : (m n : List ℕ) → mono ρ (m · n) ≡ mono ρ m *ℤ mono ρ n
  ·_is [] n = sym (one-* (mono ρ n))
  ·_is (i ∷ m) n = rw (with_var-is i (m · n), ·_is m n) (*_assoc (x i) (mono ρ m) (mono ρ n))

  plus_is : (c : ℤ) (m : List ℕ) (p : Poly) → poly ρ (plus c m p) ≡ c *ℤ mono ρ m +ℤ poly ρ p
  plus_is c m nil = refl
  plus_is c m (term d n p) = go (plus_is c m p) (order m n) refl
    where
      go : poly ρ (plus c m p) ≡ c *ℤ mono ρ m +ℤ poly ρ p → (o : Ordering) → order m n ≡ o
          → poly ρ (elim o [ Ordering.lt ↦ term c m (term d n p) | Ordering.eq ↦ term (c +ℤ d) n p | Ordering.gt ↦ term d n (plus c m p) ])
          ≡ c *ℤ mono ρ m +ℤ (d *ℤ mono ρ n +ℤ poly ρ p)
      go h Ordering.lt e = refl
      go h Ordering.eq e = rw (order_eq m n e) (gather c d (mono ρ n) (poly ρ p))
      go h Ordering.gt e = rw h (swap+ (d *ℤ mono ρ n) (c *ℤ mono ρ m) (poly ρ p))

  times_is : (c : ℤ) (m : List ℕ) (p q : Poly) → poly ρ (times c m p q) ≡ c *ℤ mono ρ m *ℤ poly ρ p +ℤ poly ρ q
  times_is c m nil q = sym (zero-*+ (c *ℤ mono ρ m) (poly ρ q))
  times_is c m (term d n p) q =
      rw (plus_is (c *ℤ d) (m · n) (times c m p q), ·_is m n, times_is c m p q)
      (expand c d (mono ρ m) (mono ρ n) (poly ρ p) (poly ρ q))

  product_is : (p q : Poly) → poly ρ (product p q) ≡ poly ρ p *ℤ poly ρ q
  product_is nil q = sym (zero-*ℤ (poly ρ q))
  product_is (term c m p) q = rw (times_is c m q (product p q), product_is p q) (sym (*_dist (c *ℤ mono ρ m) (poly ρ p) (poly ρ q)))

  normal_is : (e : Expr) → poly ρ (normal e) ≡ value ρ e
  normal_is (var i) = unit (x i)
  normal_is (con c) = +ℤ_idr (c *ℤ pos 1) ∙ *-one c
  normal_is (e :+ f) = rw (times_is (pos 1) [] (normal e) (normal f), normal_is e, normal_is f) (ap (λ z. z +ℤ value ρ f) (one-* (value ρ e)))
  normal_is (e :* f) = rw (product_is (normal e) (normal f), normal_is e, normal_is f)
  normal_is (:- e) = rw (times_is (negsuc 0) [] (normal e) nil, normal_is e) (+ℤ_idr _ ∙ minus (value ρ e))

  is_zero-is : (p : Poly) → T (is_zero p) → poly ρ p ≡ pos 0
  is_zero-is nil t = refl
  is_zero-is (term (pos zero) m p) t = ap₂ ◌+ℤ◌ (zero-*ℤ (mono ρ m)) (is_zero-is p t)
  is_zero-is (term (pos (suc n)) m p) t = absurd t
  is_zero-is (term (negsuc n) m p) t = absurd t

  pub ring : (e f : Expr) → T (is_zero (normal (e :- f))) → value ρ e ≡ value ρ f
  ring e f t = difference (value ρ e) (value ρ f) (sym (normal_is (e :- f)) ∙ is_zero-is (normal (e :- f)) t)

says : (n : ℕ) (ρ : List ℤ) (c : Claim) → T (holds c) → Says n ρ c
says zero ρ (e := f) t = ring ρ e f t
says (suc n) ρ c t = λ z. says n (ρ ++ (z ∷ [])) c t

pub solve : (n : ℕ) (f : Claims n) → T (holds (numbered n 0 f)) → Says n [] (numbered n 0 f)
solve n f t = says n [] (numbered n 0 f) t
