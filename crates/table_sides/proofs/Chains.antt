-- Following a chain. The idea: of the sides from some number on none is the one looked for, since those that begin elsewhere have another code, and those that begin at
-- the corner stand in the chain and were looked at. Assumes nothing.
use mathlib.Core.Path.{◌≡◌, refl, sym, ◌∙◌, subst}
use mathlib.Core.List.{List, [], ◌∷◌}
use Prim.Native.Nat.{ℕ, zero, suc, ◌-◌, ◌≤◌, ◌<◌}
use native.Mathlib.Omega.{arith}
use native.Mathlib.Decide.{dec_le, ℕ_discrete}
use borrow.Author.Tests.{eq-eqb, ne_eqb}
use lib.ListN.{length, get_or}
use Rattle.whole_order.specs.Ascending.{Distinct}
use Rattle.table_sides.specs.Numbered.{number_in}
use Rattle.table_sides.specs.Chains.{Last}

-- ---- the last number of which something holds
module _ (P : ℕ → Type 0) where
  -- There is only one such number.
  pub last_one : (n r s : ℕ) → Last P n r → Last P n s → r ≡ s
  last_one n zero zero p q = refl
  last_one n zero (suc s) p q = absurd (p.none s (omega arith) (omega (arith, q.within)) (q.there s refl))
  last_one n (suc r) zero p q = absurd (q.none r (omega arith) (omega (arith, p.within)) (p.there r refl))
  last_one n (suc r) (suc s) p q = go (dec_le r s) (dec_le s r)
    where
      go : Dec (r ≤ s) → Dec (s ≤ r) → suc r ≡ suc s
      go (yes a) (yes b) = omega arith
      go (yes a) (no b) = absurd (p.none s (omega arith) (omega (arith, q.within)) (q.there s refl))
      go (no a) (yes b) = absurd (q.none r (omega arith) (omega (arith, p.within)) (p.there r refl))
      go (no a) (no b) = absurd (omega arith)

  -- One number more, of which it holds or doesn't.
  pub last_more : (n r : ℕ) → Last P n r → (P n → ⊥) → Last P (suc n) r
  last_more n r l f = record { within = omega (arith, l.within); there = l.there; none = λ j h k p. go j h k p (ℕ_discrete j n) }
    where
      go : (j : ℕ) → r ≤ j → j < suc n → P j → Dec (j ≡ n) → ⊥
      go j h k p (yes e) = f (subst P e p)
      go j h k p (no d) = l.none j h (omega arith) p

  pub last_itself : (n : ℕ) → P n → Last P (suc n) (suc n)
  last_itself n p = record { within = omega arith; there = λ j e. let q : n ≡ j = omega arith in subst P q p; none = λ j h k q. omega arith }

  pub last_none : Last P 0 0
  last_none = record { within = omega arith; there = λ j e. absurd (omega arith); none = λ j h k p. omega arith }

-- What holds of the same numbers has the same last.
pub last_same : (P Q : ℕ → Type 0) (n r : ℕ) → ((j : ℕ) → j < n → P j → Q j) → ((j : ℕ) → j < n → Q j → P j) → Last P n r → Last Q n r
last_same P Q n r f g l = record {
  within = l.within;
  there = λ j e. f j (omega (arith, l.within)) (l.there j e);
  none = λ j h k q. l.none j h k (g j k q);
}

-- ---- a step along a chain
-- Q holds only of sides of the chain. It holds of none from r on; where it doesn't hold of the side with number r either, it holds of none from the next side of the chain on.
pub step_on : (P Q : ℕ → Type 0) (n r next : ℕ) → ((j : ℕ) → Q j → P j) → Last P (r - 1) next → (Q (r - 1) → ⊥) → ((j : ℕ) → r ≤ j → j < n → Q j → ⊥) → (j : ℕ) → next ≤ j → j < n → Q j → ⊥
step_on P Q n r next in-chain l f g j h k q = go (dec_le r j) (ℕ_discrete j (r - 1))
  where
    go : Dec (r ≤ j) → Dec (j ≡ r - 1) → ⊥
    go (yes a) d = g j a k q
    go (no a) (yes e) = f (subst Q e q)
    go (no a) (no d) = l.none j h (omega arith) (in-chain j q)

-- ---- the first number of a code
number_first : (l : List ℕ) (c j : ℕ) → j < length l → get_or l j 0 ≡ c → ((k : ℕ) → k < length l → get_or l k 0 ≡ c → j ≤ k) → number_in c l ≡ suc j
number_first [] c j h e n = absurd (omega arith)
number_first (x ∷ l) c zero h e n = rw (eq-eqb x c e)
number_first (x ∷ l) c (suc j) h e n =
    rw (ne_eqb x c (λ t. let z = n 0 (omega arith) t in omega arith), number_first l c j (omega arith) e (λ k g t. let z = n (suc k) (omega arith) t in omega arith))

number_none : (l : List ℕ) (c : ℕ) → ((j : ℕ) → j < length l → get_or l j 0 ≡ c → ⊥) → number_in c l ≡ 0
number_none [] c n = refl
number_none (x ∷ l) c n = rw (ne_eqb x c (n 0 (omega arith)), number_none l c (λ j h. n (suc j) (omega arith)))

-- Where no code stands twice its last number is its first.
pub last_number : (codes : List ℕ) (c r : ℕ) → Distinct codes → Last (λ j. get_or codes j 0 ≡ c) (length codes) r → r ≡ number_in c codes
last_number codes c zero d l = sym (number_none codes c (λ j h e. l.none j (omega arith) h e))
last_number codes c (suc r) d l =
    sym (number_first codes c r (omega (arith, l.within)) (l.there r refl) (λ k h e. let q : r ≡ k = d r k (omega (arith, l.within)) h (l.there r refl ∙ sym e) in omega arith))
