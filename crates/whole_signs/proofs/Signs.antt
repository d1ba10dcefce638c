-- The sign of a whole number, and its laws: of a negative, of a product, of a difference. Assumes nothing.
use mathlib.Core.Path.{◌≡◌, refl, sym, ◌∙◌, ap, subst}
use mathlib.Core.Bool.{Bool, true, false, not}
use Prim.Native.Nat.{ℕ, zero, suc, ◌+◌, ◌*◌}
use native.Mathlib.Omega.{arith}
use lib.IntN.{ℤ, pos, negsuc, neg_ℤ, ◌-ℤ◌, ◌*ℤ◌, zero-*ℤ, *ℤ-zero}
use lib.Signed.{◌<ℤ◌, le_z, lt_z, le_z_yes, lt_z_yes}
use lib.Dec.{T, lt→ltb, ltb→lt}
use Rattle.whole.specs.Numbers.{eq_z}
use Rattle.whole.proofs.Int.{zify, ints, parts, le_is, lt_is, eq_z-eq, eq_z-refl}
use Rattle.whole.proofs.Ring.{difference}

pub data Sign : Type 0 where
  minus null plus : Sign

abbrev pub sign : ℤ → Sign
sign (pos zero) = null
sign (pos (suc n)) = plus
sign (negsuc n) = minus

abbrev pub is_plus : Sign → Bool
is_plus minus = false
is_plus null = false
is_plus plus = true

abbrev pub is_minus : Sign → Bool
is_minus minus = true
is_minus null = false
is_minus plus = false

abbrev pub is_null : Sign → Bool
is_null minus = false
is_null null = true
is_null plus = false

abbrev pub opposite : Sign → Sign
opposite minus = plus
opposite null = null
opposite plus = minus

infixl 7 ◌⊗◌
abbrev pub ◌⊗◌ : Sign → Sign → Sign
minus ⊗ s = opposite s
null ⊗ s = null
plus ⊗ s = s

-- what a sign says
abbrev pub Has : Sign → ℤ → Type 0
Has minus z = z <ℤ pos 0
Has null z = z ≡ pos 0
Has plus z = pos 0 <ℤ z

pub has : (z : ℤ) → Has (sign z) z
has (pos zero) = refl
has (pos (suc n)) = lt_z_yes (lt→ltb 0 (suc n) (omega arith))
has (negsuc n) = lt_z_yes tt

pub has_only : (s : Sign) (z : ℤ) → Has s z → sign z ≡ s
has_only s z h = go s (sign z) h (has z)
  where
    go : (s r : Sign) → Has s z → Has r z → r ≡ s
    go minus minus h k = refl
    go minus null h k = absurd (omega (arith, ints))
    go minus plus h k = absurd (omega (arith, ints))
    go null minus h k = absurd (omega (arith, ints))
    go null null h k = refl
    go null plus h k = absurd (omega (arith, ints))
    go plus minus h k = absurd (omega (arith, ints))
    go plus null h k = absurd (omega (arith, ints))
    go plus plus h k = refl

pub sign_neg : (z : ℤ) → sign (neg_ℤ z) ≡ opposite (sign z)
sign_neg (pos zero) = refl
sign_neg (pos (suc n)) = refl
sign_neg (negsuc n) = refl

suc_suc : (m n : ℕ) → suc m * suc n ≡ suc (n + m * suc n)
suc_suc m n = omega arith

pub sign-* : (z w : ℤ) → sign (z *ℤ w) ≡ sign z ⊗ sign w
sign-* (pos zero) w = ap sign (zero-*ℤ w)
sign-* (pos (suc m)) (pos zero) = ap sign (*ℤ-zero (pos (suc m)))
sign-* (pos (suc m)) (pos (suc n)) = ap (λ k. sign (pos k)) (suc_suc m n)
sign-* (pos (suc m)) (negsuc n) = ap (λ k. sign (neg_ℤ (pos k))) (suc_suc m n)
sign-* (negsuc m) (pos zero) = ap sign (*ℤ-zero (negsuc m))
sign-* (negsuc m) (pos (suc n)) = ap (λ k. sign (neg_ℤ (pos k))) (suc_suc m n)
sign-* (negsuc m) (negsuc n) = ap (λ k. sign (pos k)) (suc_suc m n)

-- a positive factor changes no sign
⊗-plus : (s : Sign) → s ⊗ plus ≡ s
⊗-plus minus = refl
⊗-plus null = refl
⊗-plus plus = refl

pub sign_times : (m z : ℤ) → pos 0 <ℤ m → sign (z *ℤ m) ≡ sign z
sign_times m z h = sign-* z m ∙ ap (λ s. sign z ⊗ s) (has_only plus m h) ∙ ⊗-plus (sign z)

pub sign_scale : (m n z w : ℤ) → pos 0 <ℤ m → pos 0 <ℤ n → z *ℤ m ≡ w *ℤ n → sign z ≡ sign w
sign_scale m n z w h k e = sym (sign_times m z h) ∙ ap sign e ∙ sign_times n w k

-- the tests of order, by the sign of the difference
pub by_T : (b : Bool) → T b → b ≡ true
by_T true t = refl
by_T false t = absurd t

pub by_no_T : (b : Bool) → (T b → ⊥) → b ≡ false
by_no_T true f = absurd (f tt)
by_no_T false f = refl

pub lt_z-sign : (a b : ℤ) → lt_z a b ≡ is_plus (sign (b -ℤ a))
lt_z-sign a b = go (sign (b -ℤ a)) (has (b -ℤ a))
  where
    go : (s : Sign) → Has s (b -ℤ a) → lt_z a b ≡ is_plus s
    go minus h = by_no_T _ (λ t. omega (arith, ints, (lt_is a b).0 (lt_z_yes t), simp zify at (rw (parts a, parts b) at h)))
    go null h = by_no_T _ (λ t. omega (arith, ints, (lt_is a b).0 (lt_z_yes t), simp zify at (rw (parts a, parts b) at h)))
    go plus h = by_T _ ((lt_is a b).1 (omega (arith, simp zify at (rw (parts a, parts b) at h)))).lt

pub le_z-sign : (a b : ℤ) → le_z a b ≡ not (is_plus (sign (a -ℤ b)))
le_z-sign a b = go (sign (a -ℤ b)) (has (a -ℤ b))
  where
    go : (s : Sign) → Has s (a -ℤ b) → le_z a b ≡ not (is_plus s)
    go minus h = by_T _ ((le_is a b).1 (omega (arith, simp zify at (rw (parts a, parts b) at h)))).le
    go null h = by_T _ ((le_is a b).1 (omega (arith, simp zify at (rw (parts a, parts b) at h)))).le
    go plus h = by_no_T _ (λ t. omega (arith, ints, (le_is a b).0 (le_z_yes t), simp zify at (rw (parts a, parts b) at h)))

pub eq_z-sign : (a b : ℤ) → eq_z a b ≡ is_null (sign (a -ℤ b))
eq_z-sign a b = go (sign (a -ℤ b)) (has (a -ℤ b))
  where
    go : (s : Sign) → Has s (a -ℤ b) → eq_z a b ≡ is_null s
    go minus h = by_no_T _ (λ t. omega (arith, ints, eq_z-eq a b t, simp zify at (rw (parts a, parts b) at h)))
    go null h = by_T _ (subst (λ z. T (eq_z a z)) (difference a b h) (eq_z-refl a))
    go plus h = by_no_T _ (λ t. omega (arith, ints, eq_z-eq a b t, simp zify at (rw (parts a, parts b) at h)))

pub lt_z-plus : (z : ℤ) → lt_z (pos 0) z ≡ is_plus (sign z)
lt_z-plus (pos zero) = refl
lt_z-plus (pos (suc n)) = by_T _ (lt→ltb 0 (suc n) (omega arith))
lt_z-plus (negsuc n) = refl

pub lt_z-minus : (z : ℤ) → lt_z z (pos 0) ≡ is_minus (sign z)
lt_z-minus (pos zero) = refl
lt_z-minus (pos (suc n)) = by_no_T _ (λ t. omega (arith, ltb→lt (suc n) 0 t))
lt_z-minus (negsuc n) = refl
