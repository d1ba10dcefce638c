-- Choices by a test: what both answers have, each in its own case, the choice has. Assumes nothing.
use mathlib.Core.Path.{◌≡◌, refl, sym, subst}
use mathlib.Core.Bool.{Bool, true, false, not, cond}
use lib.Dec.{T}
use Rattle.whole.specs.Tests.{Told}

-- The case told as an equation.
pub by_equal : {A : Type 0} (P : A → Type 0) (b : Bool) (x y : A) → (b ≡ true → P x) → (b ≡ false → P y) → P (cond b x y)
by_equal P true x y f g = f refl
by_equal P false x y f g = g refl

-- The case told as the test's proposition.
pub by_test : {A : Type 0} (P : A → Type 0) (b : Bool) (x y : A) → (T b → P x) → (T (not b) → P y) → P (cond b x y)
by_test P true x y f g = f tt
by_test P false x y f g = g tt

-- The other case not needed.
pub by_cond : {A : Type 0} (P : A → Type 0) (b : Bool) (x y : A) → (T b → P x) → P y → P (cond b x y)
by_cond P b x y f g = by_test P b x y f (λ t. g)

-- What the answer of a test tells, where its negation is the test of a branch.
pub told_no : (A B : Type 0) (r : Bool) → not r ≡ true → Told r A B → B
told_no A B true e h = absurd (subst T (sym e) tt)
told_no A B false e h = h

pub told_yes : (A B : Type 0) (r : Bool) → not r ≡ false → Told r A B → A
told_yes A B true e h = h
told_yes A B false e h = absurd (subst T e tt)

-- A test that was turned round.
pub turned_off : (b : Bool) → not b ≡ true → b ≡ false
turned_off true e = sym e
turned_off false e = refl

pub turned_on : (b : Bool) → not b ≡ false → b ≡ true
turned_on true e = refl
turned_on false e = sym e
