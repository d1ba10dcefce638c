-- What signs three numbers can have that add up to 0, or to more.
-- The idea: numbers of one sign that add up to 0 are 0. Assumes nothing.
use mathlib.Core.Path.{◌≡◌, refl, sym, ◌∙◌, subst}
use mathlib.Core.Bool.{Bool, true, false, ◌||◌, beq, true≢false}
use Prim.Native.Nat.{zero, suc, zero-le}
use native.Mathlib.Omega.{arith}
use lib.IntN.{ℤ, pos, negsuc, ◌+ℤ◌}
use lib.Signed.{◌≤ℤ◌, ◌<ℤ◌, le_z_yes}
use lib.Dec.{T, le→leb}
use Rattle.whole.specs.Numbers.{eq_z}
use Rattle.whole.proofs.Int.{zify, ints, parts, eq_z-eq}
use Rattle.whole.specs.Polynomials.{◌:+◌, ◌:=◌}
use Rattle.whole.proofs.Ring.{solve}
use Rattle.whole_signs.proofs.Signs.{Sign, minus, null, plus, sign, is_plus, is_minus, is_null, Has, has, by_T, by_no_T}

-- One of three signs is like that.
abbrev pub some : (Sign → Bool) → Sign → Sign → Sign → Bool
some f p q r = f p || f q || f r

abbrev pub could_cancel : Sign → Sign → Sign → Bool
could_cancel p q r = beq (some is_plus p q r) (some is_minus p q r)

not_minus : (z : ℤ) → is_minus (sign z) ≡ false → pos 0 ≤ℤ z
not_minus (pos n) e = le_z_yes (le→leb 0 n zero-le)
not_minus (negsuc n) e = absurd (true≢false e)

pub not_plus : (z : ℤ) → is_plus (sign z) ≡ false → z ≤ℤ pos 0
not_plus (pos zero) e = le_z_yes tt
not_plus (pos (suc n)) e = absurd (true≢false e)
not_plus (negsuc n) e = le_z_yes tt

pub is_null_lem : (z : ℤ) → is_null (sign z) ≡ true → z ≡ pos 0
is_null_lem (pos zero) e = refl
is_null_lem (pos (suc n)) e = absurd (true≢false (sym e))
is_null_lem (negsuc n) e = absurd (true≢false (sym e))

pub zero_sign : (z : ℤ) → eq_z z (pos 0) ≡ is_null (sign z)
zero_sign z = go (sign z) (has z)
  where
    go : (s : Sign) → Has s z → eq_z z (pos 0) ≡ is_null s
    go minus h = by_no_T _ (λ t. omega (arith, ints, eq_z-eq z (pos 0) t))
    go null h = by_T _ (subst (λ w. T (eq_z w (pos 0))) (sym h) tt)
    go plus h = by_no_T _ (λ t. omega (arith, ints, eq_z-eq z (pos 0) t))

beq_intro : (x y : Bool) → (T x → T y) → (T y → T x) → T (beq x y)
beq_intro true true f g = tt
beq_intro true false f g = f tt
beq_intro false true f g = g tt
beq_intro false false f g = tt

pub some_plus : (p q r : ℤ) → pos 0 <ℤ (p +ℤ q +ℤ r) → T (some is_plus (sign p) (sign q) (sign r))
some_plus p q r h = go (is_plus (sign p)) (is_plus (sign q)) (is_plus (sign r)) refl refl refl
  where
    go : (i j k : Bool) → is_plus (sign p) ≡ i → is_plus (sign q) ≡ j → is_plus (sign r) ≡ k → T (i || j || k)
    go true j k a b c = tt
    go false true k a b c = tt
    go false false true a b c = tt
    go false false false a b c = omega (arith, ints, not_plus p a, not_plus q b, not_plus r c, simp zify at (rw (parts p, parts q, parts r) at h))

-- the first of three numbers with one sign and sum 0 is 0
none_above : (p q r : ℤ) → p +ℤ q +ℤ r ≡ pos 0 → pos 0 ≤ℤ p → pos 0 ≤ℤ q → pos 0 ≤ℤ r → p ≡ pos 0
none_above p q r e a b c = rw (parts p) (simp zify (omega (arith, ints, simp zify at (rw (parts p, parts q, parts r) at e))))

none_below : (p q r : ℤ) → p +ℤ q +ℤ r ≡ pos 0 → p ≤ℤ pos 0 → q ≤ℤ pos 0 → r ≤ℤ pos 0 → p ≡ pos 0
none_below p q r e a b c = rw (parts p) (simp zify (omega (arith, ints, simp zify at (rw (parts p, parts q, parts r) at e))))

turned : (p q r : ℤ) → p +ℤ q +ℤ r ≡ q +ℤ r +ℤ p
turned = solve 3 (λ p q r. p :+ q :+ r := q :+ r :+ p) tt

module _ (p q r : ℤ) (e : p +ℤ q +ℤ r ≡ pos 0) where
  e' : q +ℤ r +ℤ p ≡ pos 0
  e' = sym (turned p q r) ∙ e

  e'' : r +ℤ p +ℤ q ≡ pos 0
  e'' = sym (turned q r p) ∙ e'

  up_down : T (some is_plus (sign p) (sign q) (sign r)) → T (some is_minus (sign p) (sign q) (sign r))
  up_down t = go (is_minus (sign p)) (is_minus (sign q)) (is_minus (sign r)) refl refl refl
    where
      go : (i j k : Bool) → is_minus (sign p) ≡ i → is_minus (sign q) ≡ j → is_minus (sign r) ≡ k → T (i || j || k)
      go true j k a b c = tt
      go false true k a b c = tt
      go false false true a b c = tt
      go false false false a b c = let x = not_minus p a in let y = not_minus q b in let w = not_minus r c in
          rw (none_above p q r e x y w, none_above q r p e' y w x, none_above r p q e'' w x y) at t

  down_up : T (some is_minus (sign p) (sign q) (sign r)) → T (some is_plus (sign p) (sign q) (sign r))
  down_up t = go (is_plus (sign p)) (is_plus (sign q)) (is_plus (sign r)) refl refl refl
    where
      go : (i j k : Bool) → is_plus (sign p) ≡ i → is_plus (sign q) ≡ j → is_plus (sign r) ≡ k → T (i || j || k)
      go true j k a b c = tt
      go false true k a b c = tt
      go false false true a b c = tt
      go false false false a b c = let x = not_plus p a in let y = not_plus q b in let w = not_plus r c in
          rw (none_below p q r e x y w, none_below q r p e' y w x, none_below r p q e'' w x y) at t

  pub cancels : T (could_cancel (sign p) (sign q) (sign r))
  cancels = beq_intro (some is_plus (sign p) (sign q) (sign r)) (some is_minus (sign p) (sign q) (sign r)) up_down down_up
