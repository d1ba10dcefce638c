-- The laws of sums, counts and net counts, over any type with a test of equality and a reverse.
-- The idea of the edge-sum law: in a list whose net counts are all 0 each member has its reverse in the list; take the two away, which
-- leaves the sum of an odd function and the net counts as they were, and go on until nothing is left. Assumes nothing.
use mathlib.Core.Path.{◌≡◌, refl, sym, ◌∙◌, ap, ap₂, subst}
use mathlib.Core.Logic.{◌↔◌}
use mathlib.Core.Bool.{Bool, true, false, ◌&&◌}
use mathlib.Core.List.{List, [], ◌∷◌, ◌++◌, map, flat_map, append_assoc}
use Prim.Native.Nat.{ℕ, zero, suc, ◌+◌, ◌≤◌, ◌<◌}
use native.Mathlib.Omega.{arith}
use native.Mathlib.Decide.{dec_le}
use lib.Dec.{T}
use lib.IntN.{ℤ, pos, neg_ℤ, ◌+ℤ◌, ◌-ℤ◌, +ℤ_idl, +ℤ_assoc}
use lib.ListN.{length, get_or, take, drop, length-append}
use Rattle.whole.specs.Sums.{All, every, any, sum, bit, count, net}
use Rattle.whole.proofs.Int.{zify, self_neg}
use Rattle.whole.specs.Polynomials.{◌:+◌, ◌:-◌, :-◌, ◌:=◌}
use Rattle.whole.proofs.Ring.{difference, solve}

-- ---- tests
pub and_left : (b c : Bool) → T (b && c) → T b
and_left true c t = tt
and_left false c t = t

pub and_right : (b c : Bool) → T (b && c) → T c
and_right true c t = t
and_right false c t = absurd t

pub and_both : (b c : Bool) → T b → T c → T (b && c)
and_both true c t u = u
and_both false c t u = t

pub bool_iff : (b c : Bool) → (T b → T c) → (T c → T b) → b ≡ c
bool_iff true true f g = refl
bool_iff true false f g = absurd (f tt)
bool_iff false true f g = absurd (g tt)
bool_iff false false f g = refl

pub bit_iff : (b c : Bool) → (T b → T c) → (T c → T b) → bit b ≡ bit c
bit_iff b c f g = ap bit (bool_iff b c f g)

pub bit_no : (b : Bool) → (T b → ⊥) → bit b ≡ 0
bit_no true f = absurd (f tt)
bit_no false f = refl

pub bit_small : (b : Bool) → bit b ≤ 1
bit_small true = omega arith
bit_small false = omega arith

pub bit_yes : (b : Bool) → T b → bit b ≡ 1
bit_yes true t = refl
bit_yes false t = absurd t

-- ---- members
module _ {A : Type 0} where
  pub all-++ : (P : A → Type 0) (l m : List A) → All P l → All P m → All P (l ++ m)
  all-++ P [] m h k = k
  all-++ P (a ∷ l) m h k = (h.0, all-++ P l m h.1 k)

  pub all_left : (P : A → Type 0) (l m : List A) → All P (l ++ m) → All P l
  all_left P [] m h = tt
  all_left P (a ∷ l) m h = (h.0, all_left P l m h.1)

  pub all_right : (P : A → Type 0) (l m : List A) → All P (l ++ m) → All P m
  all_right P [] m h = h
  all_right P (a ∷ l) m h = all_right P l m h.1

  pub all_of : (P : A → Type 0) → ((a : A) → P a) → (l : List A) → All P l
  all_of P f [] = tt
  all_of P f (a ∷ l) = (f a, all_of P f l)

  pub all_map : (P Q : A → Type 0) → ((a : A) → P a → Q a) → (l : List A) → All P l → All Q l
  all_map P Q f [] h = tt
  all_map P Q f (a ∷ l) h = (f a h.0, all_map P Q f l h.1)

  -- What each member has, the member at a place has; and the other way round.
  pub all_at : (P : A → Type 0) (d : A) (l : List A) (i : ℕ) → All P l → i < length l → P (get_or l i d)
  all_at P d [] i h k = absurd (omega arith)
  all_at P d (a ∷ l) zero h k = h.0
  all_at P d (a ∷ l) (suc i) h k = all_at P d l i h.1 (omega arith)

  pub all_from : (P : A → Type 0) (d : A) (l : List A) → ((i : ℕ) → i < length l → P (get_or l i d)) → All P l
  all_from P d [] f = tt
  all_from P d (a ∷ l) f = (f 0 (omega arith), all_from P d l (λ i h. f (suc i) (omega arith)))

  pub all_take : (P : A → Type 0) (n : ℕ) (l : List A) → All P l → All P (take n l)
  all_take P zero l h = tt
  all_take P (suc n) [] h = tt
  all_take P (suc n) (a ∷ l) h = (h.0, all_take P n l h.1)

  pub all_drop : (P : A → Type 0) (n : ℕ) (l : List A) → All P l → All P (drop n l)
  all_drop P zero l h = h
  all_drop P (suc n) [] h = tt
  all_drop P (suc n) (a ∷ l) h = all_drop P n l h.1

  pub every_all : (p : A → Bool) (P : A → Type 0) → ((a : A) → T (p a) → P a) → (l : List A) → T (every p l) → All P l
  every_all p P f [] t = tt
  every_all p P f (a ∷ l) t = go (p a) refl t (every_all p P f l)
    where
      go : (b : Bool) → p a ≡ b → T (elim b [ true ↦ every p l | false ↦ false ]) → (T (every p l) → All P l) → P a × All P l
      go true e t r = (f a (subst T (sym e) tt), r t)
      go false e t r = absurd t

  pub all_every : (p : A → Bool) (P : A → Type 0) → ((a : A) → P a → T (p a)) → (l : List A) → All P l → T (every p l)
  all_every p P f [] h = tt
  all_every p P f (a ∷ l) h = go (p a) (f a h.0) (all_every p P f l h.1)
    where
      go : (b : Bool) → T b → T (every p l) → T (elim b [ true ↦ every p l | false ↦ false ])
      go true t u = u
      go false t u = t

-- No member passes the test.
pub none_any : {A : Type 0} (p : A → Bool) (l : List A) → (T (any p l) → ⊥) ↔ All (λ a. T (p a) → ⊥) l
none_any p [] = (λ h. tt, λ h t. t)
none_any p (a ∷ l) = go (p a) (none_any p l)
  where
    go : (b : Bool) → (T (any p l) → ⊥) ↔ All (λ a. T (p a) → ⊥) l → (T (elim b [ true ↦ true | false ↦ any p l ]) → ⊥) ↔ ((T b → ⊥) × All (λ a. T (p a) → ⊥) l)
    go true r = (λ h. absurd (h tt), λ h t. h.0 tt)
    go false r = (λ h. (λ t. t, r.0 h), λ h. r.1 h.1)

pub all-flat_map : {A B : Type 0} (P : A → Type 0) (Q : B → Type 0) (g : A → List B) → ((a : A) → P a → All Q (g a)) → (l : List A) → All P l → All Q (flat_map g l)
unfolding flat_map
all-flat_map P Q g f [] h = tt
all-flat_map P Q g f (a ∷ l) h = all-++ Q (g a) (flat_map g l) (f a h.0) (all-flat_map P Q g f l h.1)

pub all_image : {A B : Type 0} (f : A → B) (Q : B → Type 0) (l : List A) → All (λ a. Q (f a)) l → All Q (map f l)
all_image f Q [] h = tt
all_image f Q (a ∷ l) h = (h.0, all_image f Q l h.1)

pub map-++ : {A B : Type 0} (f : A → B) (k l : List A) → map f (k ++ l) ≡ map f k ++ map f l
map-++ f [] l = refl
map-++ f (a ∷ k) l = ap (λ m. f a ∷ m) (map-++ f k l)

pub flat_map-++ : {A B : Type 0} (g : A → List B) (l m : List A) → flat_map g (l ++ m) ≡ flat_map g l ++ flat_map g m
unfolding flat_map
flat_map-++ g [] m = refl
flat_map-++ g (a ∷ l) m = ap (λ k. g a ++ k) (flat_map-++ g l m) ∙ sym (append_assoc (g a) (flat_map g l) (flat_map g m))

-- ---- sums
pub sum-++ : {A : Type 0} (f : A → ℤ) (l m : List A) → sum f (l ++ m) ≡ sum f l +ℤ sum f m
sum-++ f [] m = sym (+ℤ_idl (sum f m))
sum-++ f (a ∷ l) m = rw (sum-++ f l m) (sym (+ℤ_assoc (f a) (sum f l) (sum f m)))

pub sum-flat_map : {A B : Type 0} (f : B → ℤ) (g : A → List B) (h : A → ℤ) → ((a : A) → sum f (g a) ≡ h a) → (l : List A) → sum f (flat_map g l) ≡ sum h l
unfolding flat_map
sum-flat_map f g h e [] = refl
sum-flat_map f g h e (a ∷ l) = sum-++ f (g a) (flat_map g l) ∙ ap₂ ◌+ℤ◌ (e a) (sum-flat_map f g h e l)

-- ---- counts, by a test that tells equal things apart from others
module _ {E : Type 0} (same : E → E → Bool) (same-eq : (x y : E) → T (same x y) → x ≡ y) (same_refl : (x : E) → T (same x x)) where
  pub count-++ : (e : E) (l m : List E) → count same e (l ++ m) ≡ count same e l + count same e m
  count-++ e [] m = omega arith
  count-++ e (x ∷ l) m = omega (arith, count-++ e l m)

  -- A member that is counted stands somewhere.
  pub find : (e : E) (l : List E) → 1 ≤ count same e l → (a : List E) × (b : List E) × (l ≡ a ++ e ∷ b)
  find e [] h = absurd (omega arith)
  find e (x ∷ l) h = go (same x e) (same-eq x e) (find e l) h
    where
      go : (t : Bool) → (T t → x ≡ e) → (1 ≤ count same e l → (a : List E) × (b : List E) × (l ≡ a ++ e ∷ b)) → 1 ≤ bit t + count same e l
          → (a : List E) × (b : List E) × (x ∷ l ≡ a ++ e ∷ b)
      go true p r h = ([], l, ap (λ y. y ∷ l) (p tt))
      go false p r h = let s = r (omega arith) in (x ∷ s.0, s.1, ap (λ m. x ∷ m) s.2)

  -- What holds for each member of a list holds for what it counts.
  pub counted : (P : E → Type 0) (e : E) (l : List E) → 1 ≤ count same e l → All P l → P e
  counted P e [] h a = absurd (omega arith)
  counted P e (x ∷ l) h a = go (same x e) (same-eq x e) (λ k. counted P e l k a.1) h
    where
      go : (t : Bool) → (T t → x ≡ e) → (1 ≤ count same e l → P e) → 1 ≤ bit t + count same e l → P e
      go true p r h = subst P (p tt) a.0
      go false p r h = r (omega arith)

  -- A list of which no member is e does not count it.
  pub not_counted : (e : E) (l : List E) → All (λ x. T (same e x) → ⊥) l ↔ (count same e l ≡ 0)
  not_counted e [] = (λ h. refl, λ h. tt)
  not_counted e (x ∷ l) = (
    λ h. omega (arith, (not_counted e l).0 h.1, bit_no (same x e) (λ t. h.0 (turned x e t))),
    λ h. (λ t. absurd (omega (arith, bit_yes (same x e) (turned e x t))), (not_counted e l).1 (omega arith)),
  )
    where
      turned : (x y : E) → T (same x y) → T (same y x)
      turned x y t = subst (λ z. T (same z x)) (same-eq x y t) (same_refl x)

  -- Each member of a list is counted in it.
  pub all_counted : (l : List E) → All (λ e. 1 ≤ count same e l) l
  all_counted [] = tt
  all_counted (x ∷ l) = (
    omega (arith, bit_yes (same x x) (same_refl x)),
    all_map (λ e. 1 ≤ count same e l) (λ e. 1 ≤ bit (same x e) + count same e l) (λ e h. omega arith) l (all_counted l),
  )

  pub same_or_not : (x y : E) → Dec (x ≡ y)
  same_or_not x y = go (same x y) (same-eq x y) (λ e. subst (λ z. T (same x z)) e (same_refl x))
    where
      go : (b : Bool) → (T b → x ≡ y) → (x ≡ y → T b) → Dec (x ≡ y)
      go true f g = yes (f tt)
      go false f g = no g

  -- ---- the edge-sum law
  module _ (flip : E → E) (twice : (e : E) → flip (flip e) ≡ e) where
    abbrev # : E → List E → ℕ
    # = count same

    bit_eq : (x y u v : E) → (x ≡ y → u ≡ v) → (u ≡ v → x ≡ y) → bit (same x y) ≡ bit (same u v)
    bit_eq x y u v f g = bit_iff (same x y) (same u v) (λ t. subst (λ z. T (same u z)) (f (same-eq x y t)) (same_refl u)) (λ t. subst (λ z. T (same x z)) (g (same-eq u v t)) (same_refl x))

    flipped : (x e : E) → bit (same x (flip e)) ≡ bit (same (flip x) e)
    flipped x e = bit_eq x (flip e) (flip x) e (λ p. ap flip p ∙ twice e) (λ p. sym (twice x) ∙ ap flip p)

    count_flip : (e : E) (l : List E) → # e (map flip l) ≡ # (flip e) l
    count_flip e [] = refl
    count_flip e (x ∷ l) = omega (arith, count_flip e l, flipped x e)

    -- Net counts are equal everywhere if they are equal at the members of the two lists: this is what a program can check.
    module _ (l m : List E) where
      pub net_everywhere : All (λ e. net same flip e l ≡ net same flip e m) (l ++ m) → (e : E) → net same flip e l ≡ net same flip e m
      unfolding net
      net_everywhere h e = go (dec_le 1 (# e (l ++ m))) (dec_le 1 (# (flip e) (l ++ m)))
        where
          go : Dec (1 ≤ # e (l ++ m)) → Dec (1 ≤ # (flip e) (l ++ m)) → pos (# e l) -ℤ pos (# (flip e) l) ≡ pos (# e m) -ℤ pos (# (flip e) m)
          go (yes p) d = counted (λ e. net same flip e l ≡ net same flip e m) e (l ++ m) p h
          go (no p) (yes q) = simp zify (omega (arith, simp zify at (rw twice at (counted (λ e. net same flip e l ≡ net same flip e m) (flip e) (l ++ m) q h))))
          go (no p) (no q) = simp zify (omega (arith, count-++ e l m, count-++ (flip e) l m))

    module _ (f : E → ℤ) (odd : (e : E) → f (flip e) ≡ neg_ℤ (f e)) where
      -- Each member stands in the list as often as its reverse.
      abbrev Even : List E → Type 0
      Even l = (e : E) → # e l ≡ # (flip e) l

      -- A member and its reverse are taken away.
      pair : (x : E) (a b : List E) → Even (x ∷ a ++ flip x ∷ b) → (Even (a ++ b) → sum f (a ++ b) ≡ pos 0) → f x +ℤ sum f (a ++ flip x ∷ b) ≡ pos 0
      pair x a b h r =
          rw (sum-++ f a (flip x ∷ b), odd x)
          (solve 3 (λ z s t. z :+ (s :+ (:- z :+ t)) := s :+ t) tt (f x) (sum f a) (sum f b)
          ∙ sym (sum-++ f a b)
          ∙ r (λ e. omega (arith, h e, count-++ e a (flip x ∷ b), count-++ (flip e) a (flip x ∷ b), count-++ e a b, count-++ (flip e) a b, flipped x e, flipped (flip x) e, again e)))
        where
          again : (e : E) → bit (same (flip (flip x)) e) ≡ bit (same x e)
          again e = rw (twice x)

      take_away : (x : E) (l : List E) → Even (x ∷ l) → ((m : List E) → length m ≤ length l → Even m → sum f m ≡ pos 0) → Dec (x ≡ flip x) → f x +ℤ sum f l ≡ pos 0
      take_away x l h r (yes p) = rw (self_neg (f x) (ap f p ∙ odd x), r l (omega arith) (λ e. omega (arith, h e, own e)))
        where
          own : (e : E) → bit (same x e) ≡ bit (same x (flip e))
          own e = bit_eq x e x (flip e) (λ q. p ∙ ap flip q) (λ q. p ∙ ap flip q ∙ twice e)
      take_away x l h r (no p) = go (find (flip x) l (omega (arith, h x, bit_yes (same x x) (same_refl x), bit_no (same x (flip x)) (λ t. p (same-eq x (flip x) t)))))
        where
          go : (a : List E) × (b : List E) × (l ≡ a ++ flip x ∷ b) → f x +ℤ sum f l ≡ pos 0
          go s = rw s.2 (pair x s.0 s.1 (rw s.2 at h) (r (s.0 ++ s.1) (omega (arith, ap length s.2, length-append s.0 (flip x ∷ s.1), length-append s.0 s.1))))

      balanced : (n : ℕ) (l : List E) → length l ≤ n → Even l → sum f l ≡ pos 0
      balanced zero [] s h = refl
      balanced zero (x ∷ l) s h = absurd (omega arith)
      balanced (suc n) [] s h = refl
      balanced (suc n) (x ∷ l) s h = take_away x l h (λ m t. balanced n m (omega arith)) (same_or_not x (flip x))

      sum_flip : (l : List E) → sum f (map flip l) ≡ neg_ℤ (sum f l)
      sum_flip [] = refl
      sum_flip (x ∷ l) = rw (odd x, sum_flip l) (solve 2 (λ a b. :- a :+ :- b := :- (a :+ b)) tt (f x) (sum f l))

      -- The edge-sum law: lists with the same net count at every member have the same sum of an odd function.
      pub same_sum : (l m : List E) → ((e : E) → net same flip e l ≡ net same flip e m) → sum f l ≡ sum f m
      unfolding net
      same_sum l m h = difference (sum f l) (sum f m)
          (rw (← sum_flip m, ← sum-++ f l (map flip m)) (balanced (length (l ++ map flip m)) (l ++ map flip m) (omega arith)
          (λ e. omega (arith, simp zify at (h e), count-++ e l (map flip m), count-++ (flip e) l (map flip m), count_flip e m, count_flip (flip e) m, count_twice e))))
        where
          count_twice : (e : E) → # (flip (flip e)) m ≡ # e m
          count_twice e = rw (twice e)
