-- The number of a corner among ascending corners: one more than its place where it stands among them, else 0.
-- The idea: all by induction on the list, by the tests that `number_in` makes. Assumes nothing.
use mathlib.Core.Path.{◌≡◌, refl}
use mathlib.Core.Bool.{Bool, true, false, cond}
use mathlib.Core.List.{List, [], ◌∷◌}
use Prim.Native.Nat.{ℕ, zero, suc, ◌≤◌, ◌<◌}
use native.Mathlib.Omega.{arith}
use borrow.Author.Tests.{eqb-true, eq-eqb, ne_eqb}
use lib.Dec.{eqb}
use lib.ListN.{length, get_or}
use Rattle.whole.proofs.Sums.{all_at}
use Rattle.table.specs.Opposites.{later}
use Rattle.whole_order.specs.Ascending.{Ascending, IsIn}
use Rattle.table_sides.specs.Numbered.{number_in}

-- Each corner's number is one more than its place.
pub number_at : (l : List ℕ) (i : ℕ) → Ascending l → i < length l → number_in (get_or l i 0) l ≡ suc i
number_at [] i a h = absurd (omega arith)
number_at (y ∷ l) zero a h = rw (eq-eqb y y refl)
number_at (y ∷ l) (suc i) a h =
    let below : y < get_or l i 0 = all_at (λ z. y < z) 0 l i a.0 (omega arith) in
    rw (ne_eqb y (get_or l i 0) (λ e. absurd (omega arith)), number_at l i a.1 (omega arith))

-- What is no corner has number 0;
pub number_none : (x : ℕ) (l : List ℕ) → (IsIn x l → ⊥) → number_in x l ≡ 0
number_none x [] n = refl
number_none x (y ∷ l) n = rw (ne_eqb y x (λ e. n (0, omega arith, e)), number_none x l (λ s. n (suc s.0, omega arith, s.2)))

-- what has another number is one.
later_above : (n : ℕ) → 0 < later n → 0 < n
later_above zero h = h
later_above (suc n) h = omega arith

pub number_stands : (x : ℕ) (l : List ℕ) → 0 < number_in x l → IsIn x l
number_stands x [] h = absurd (omega arith)
number_stands x (y ∷ l) h = go (eqb y x) refl (number_stands x l) h
  where
    go : (b : Bool) → eqb y x ≡ b → (0 < number_in x l → IsIn x l) → 0 < cond b 1 (later (number_in x l)) → IsIn x (y ∷ l)
    go true e r h = (0, omega arith, eqb-true y x e)
    go false e r h = let s = r (later_above (number_in x l) h) in (suc s.0, omega arith, s.2)

-- A number is at most that of the last corner.
pub number_within : (x : ℕ) (l : List ℕ) → number_in x l ≤ length l
number_within x [] = omega arith
number_within x (y ∷ l) = go (eqb y x) (number_in x l) (number_within x l)
  where
    go : (b : Bool) (n : ℕ) → n ≤ length l → cond b 1 (later n) ≤ suc (length l)
    go true n h = omega arith
    go false zero h = omega arith
    go false (suc n) h = omega arith
