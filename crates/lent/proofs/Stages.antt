-- Which stage stopped: what two stages in a chain come to is told by the first, or by the second with the first's value. Assumes nothing.
use mathlib.Core.Path.{◌≡◌, refl, sym, ◌∙◌, ap}
use mathlib.Core.Logic.{◌↔◌, ◌⊎◌, inl, inr}
use mathlib.Core.Bool.{Bool, true, false}
use mathlib.Core.Option.{Option, none, some, none-ne-some, some-injective}
use Prim.Native.Nat.{ℕ}
use native.Mathlib.Omega.{arith}
use lib.Dec.{T}
use Rattle.lent.specs.Stages.{Answer, value, refused, and_then, needing, faultless}

-- A value is no refusal.
pub value_refused : {A : Type 0} (a : A) (code item : ℕ) → value a ≡ refused code item → ⊥
value_refused a code item e = let z : ◌≡◌ {A = ℕ} 0 1 = cc e in omega arith

-- Two refusals are one exactly if code and item are.
pub same_refusal : {A : Type 0} (number k code item : ℕ) → (◌≡◌ {A = Answer A} (refused number k) (refused code item)) ↔ ((code ≡ number) × (item ≡ k))
same_refusal number k code item = (λ e. (cc e, cc e), λ (c, i) j. refused (sym c j) (sym i j))

module _ {A B : Type 0} (first : Answer A) (next : A → Answer B) where
  -- A chain has a value exactly if the first stage has one and the next stage has this one for it.
  pub chain_value : (b : B) → (and_then first next ≡ value b) ↔ ((a : A) × (first ≡ value a) × (next a ≡ value b))
  chain_value b = (go first refl, λ (a, p, q). ap (λ f. and_then f next) p ∙ q)
    where
      go : (f : Answer A) → first ≡ f → and_then f next ≡ value b → (a : A) × (first ≡ value a) × (next a ≡ value b)
      go (value a) p e = (a, p, e)
      go (refused code item) p e = absurd (value_refused b code item (sym e))

  -- A chain is refused exactly if the first stage stops it, or else the next one does.
  pub chain_refused : (code item : ℕ) → (and_then first next ≡ refused code item) ↔ ((first ≡ refused code item) ⊎ ((a : A) × (first ≡ value a) × (next a ≡ refused code item)))
  chain_refused code item = (go first refl, from)
    where
      go : (f : Answer A) → first ≡ f → and_then f next ≡ refused code item → (first ≡ refused code item) ⊎ ((a : A) × (first ≡ value a) × (next a ≡ refused code item))
      go (value a) p e = inr (a, p, e)
      go (refused number k) p e = let (c, i) = (same_refusal {A = B} number k code item).0 e in inl (p ∙ (same_refusal {A = A} number k code item).1 (c, i))

      from : (first ≡ refused code item) ⊎ ((a : A) × (first ≡ value a) × (next a ≡ refused code item)) → and_then first next ≡ refused code item
      from (inl p) = ap (λ f. and_then f next) p
      from (inr (a, p, q)) = ap (λ f. and_then f next) p ∙ q

-- ---- a stage that looks for a fault, or only tests
-- It passes exactly if there is no fault, and is refused exactly if there is one, with its number.
pub faultless_value : (code : ℕ) (o : Option ℕ) → (faultless code o ≡ value tt) ↔ (o ≡ none)
faultless_value code none = (λ e. refl, λ e. refl)
faultless_value code (some k) = (λ e. absurd (value_refused tt code k (sym e)), λ e. absurd (none-ne-some k (sym e)))

pub faultless_refused : (number : ℕ) (o : Option ℕ) (code item : ℕ) → (faultless number o ≡ refused code item) ↔ ((code ≡ number) × (o ≡ some item))
faultless_refused number none code item = (λ e. absurd (value_refused tt code item e), λ h. absurd (none-ne-some item h.1))
faultless_refused number (some k) code item = (
  λ e. let h = (same_refusal number k code item).0 e in (h.0, ap some (sym h.1)),
  λ h. (same_refusal number k code item).1 (h.0, sym (some-injective k item h.1)),
)

-- It passes exactly if the test does, and else is refused.
pub needing_value : (test : Bool) (code item : ℕ) → (needing test code item ≡ value tt) ↔ T test
needing_value true code item = (λ e. tt, λ t. refl)
needing_value false code item = (λ e. value_refused tt code item (sym e), λ t. absurd t)

pub needing_refused : (test : Bool) (number k code item : ℕ) → (needing test number k ≡ refused code item) ↔ ((T test → ⊥) × (code ≡ number) × (item ≡ k))
needing_refused true number k code item = (λ e. absurd (value_refused tt code item e), λ h. absurd (h.0 tt))
needing_refused false number k code item = (λ e. let h = (same_refusal number k code item).0 e in (λ t. t, h.0, h.1), λ h. (same_refusal number k code item).1 (h.1, h.2))
