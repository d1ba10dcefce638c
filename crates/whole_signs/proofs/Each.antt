-- Proofs by going through all signs: `each n f tt` proves the claim f for every n signs.
-- The idea: a claim that is tested true holds, and there are three signs. Assumes nothing.
use mathlib.Core.Path.{◌≡◌}
use mathlib.Core.Bool.{Bool, true, false, ◌&&◌}
use Prim.Native.Nat.{ℕ, zero, suc}
use lib.IntN.{ℤ}
use lib.Dec.{T}
use Rattle.whole.specs.Numbers.{eq_z}
use Rattle.whole.proofs.Int.{eq_z-eq}
use Rattle.whole.proofs.Sums.{and_left, and_right}
use Rattle.whole_signs.proofs.Signs.{Sign, minus, null, plus}

infixr 1 ◌⊃◌
infix 4 ◌==◌
pub data Claim : Type 0 where
  is : Bool → Claim
  ◌==◌ : ℤ → ℤ → Claim
  ◌⊃◌ : Bool → Claim → Claim

abbrev pub Holds : Claim → Type 0
Holds (is b) = T b
Holds (z == w) = z ≡ w
Holds (b ⊃ r) = T b → Holds r

abbrev pub tested : Claim → Bool
tested (is b) = b
tested (z == w) = eq_z z w
tested (b ⊃ r) = elim b [ true ↦ tested r | false ↦ true ]

sound : (r : Claim) → T (tested r) → Holds r
sound (is b) t = t
sound (z == w) t = eq_z-eq z w t
sound (b ⊃ r) t = go b t (sound r)
  where
    go : (b : Bool) → T (elim b [ true ↦ tested r | false ↦ true ]) → (T (tested r) → Holds r) → T b → Holds r
    go true t f h = f t
    go false t f h = absurd h

abbrev pub Claims : ℕ → Type 0
Claims zero = Claim
Claims (suc n) = Sign → Claims n

abbrev pub every : (n : ℕ) → Claims n → Bool
every zero r = tested r
every (suc n) f = every n (f minus) && every n (f null) && every n (f plus)

abbrev pub Each : (n : ℕ) → Claims n → Type 0
Each zero r = Holds r
Each (suc n) f = (s : Sign) → Each n (f s)

pub each : (n : ℕ) (f : Claims n) → T (every n f) → Each n f
each zero r t = sound r t
each (suc n) f t = λ s. each n (f s) (go s)
  where
    go : (s : Sign) → T (every n (f s))
    go minus = and_left (every n (f minus)) (every n (f null)) (and_left (every n (f minus) && every n (f null)) (every n (f plus)) t)
    go null = and_right (every n (f minus)) (every n (f null)) (and_left (every n (f minus) && every n (f null)) (every n (f plus)) t)
    go plus = and_right (every n (f minus) && every n (f null)) (every n (f plus)) t
