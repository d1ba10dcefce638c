-- What `coordinate_of` means, in both directions, and document 01's cases. The idea: a double that equals n in range is cut to n, so the
-- cut number is the only one to test; and of a held number the coordinate is read back. Assumes nothing.
use Rattle.std.proofs.Common.{◌≡◌, ℕ, suc, ◌^◌, Bool, true, false, cond, ◌&&◌, leb, ◌↔◌, ℤ, pos, negsuc, ◌+ℤ◌, ◌-ℤ◌, nat_abs, sym, refl, ap, ◌∙◌, subst, arith, le-ltb, le-leb, leb-true}
use lib.Ieee.{Float, nan, inf, binary64, eq, of_int, of_bits, to_signed}
use Rattle.whole.specs.Numbers.{Within}
use Rattle.whole.specs.Polynomials.{◌:+◌, ◌:-◌, ◌:=◌}
use Rattle.whole.proofs.Ring.{solve}
use Rattle.plane.specs.Corners.{millimetres}
use Rattle.plane.specs.Keys.{Held}
use Rattle.sheet_coordinate.specs.Coordinate.{Equals, held_of, coordinate_of}
use Rattle.std.specs.Prelude.{Some, None}
use Rattle.sheet_coordinate.proofs.Doubles.{and_true, equal_cut}

-- ---- held numbers

-- A number in range plus 10,000,000 is no negative number, and at most 20,000,000.
pub held_is : (n : ℤ) → Within 10_000_000 n → n +ℤ pos 10_000_000 ≡ pos (held_of n)
held_is (pos k) r = refl
held_is (negsuc k) r = rw (le-ltb 10_000_000 (suc k) r.size) refl

pub held_in : (n : ℤ) → Within 10_000_000 n → Held (held_of n)
held_in (pos k) r = omega arith
held_in (negsuc k) r = rw (le-ltb 10_000_000 (suc k) r.size) (omega arith)

-- The coordinate is read back from its held number.
pub millimetres_held : (n : ℤ) → Within 10_000_000 n → millimetres (held_of n) ≡ n
millimetres_held n r = ap (λ z. z -ℤ pos 10_000_000) (sym (held_is n r)) ∙ solve 2 (λ n o. (n :+ o) :- o := n) tt n (pos 10_000_000)

-- ---- the two ways through the definition

-- The number that the double is cut to is in range, and the double equals it.
abbrev pub Exact : Float → Type 0
Exact x = Within 10_000_000 (to_signed 63 x) × Equals x (to_signed 63 x)

abbrev test : Float → Bool
test x = leb (nat_abs (to_signed 63 x)) 10_000_000 && eq x (of_int binary64 (to_signed 63 x))

passed : (x : Float) → test x ≡ true → Exact x
passed x h = let w = and_true _ _ h in (record { size = leb-true _ _ w.0 }, w.1)

pub answered : (x : Float) → Exact x → coordinate_of x ≡ Some (held_of (to_signed 63 x))
unfolding coordinate_of
answered x h = simp (le-leb (nat_abs (to_signed 63 x)) 10_000_000 h.0.size, h.1)

pub refused : (x : Float) → (Exact x → ⊥) → coordinate_of x ≡ None
unfolding coordinate_of
refused x none = go (test x) refl
  where
    go : (b : Bool) → test x ≡ b → cond b (Some (held_of (to_signed 63 x))) None ≡ None
    go true h = absurd (none (passed x h))
    go false h = refl

only_exact : (x : Float) (h : ℕ) → coordinate_of x ≡ Some h → Exact x × (held_of (to_signed 63 x) ≡ h)
unfolding coordinate_of
only_exact x h = go (test x) refl
  where
    go : (b : Bool) → test x ≡ b → cond b (Some (held_of (to_signed 63 x))) None ≡ Some h → Exact x × (held_of (to_signed 63 x) ≡ h)
    go true q e = (passed x q, cc e)
    go false q e = let z : ◌≡◌ {A = ℕ} 0 1 = cc in absurd (omega arith)

-- ---- what it means

-- The double is the coordinate n exactly if it equals n.
pub coordinate_is : (x : Float) (n : ℤ) → Within 10_000_000 n → (coordinate_of x ≡ Some (held_of n)) ↔ Equals x n
coordinate_is x n r = (to, from)
  where
    to : coordinate_of x ≡ Some (held_of n) → Equals x n
    to e =
        let w = only_exact x (held_of n) e in
        subst (Equals x) (sym (millimetres_held (to_signed 63 x) w.0.0) ∙ ap millimetres w.1 ∙ millimetres_held n r) w.0.1

    from : Equals x n → coordinate_of x ≡ Some (held_of n)
    from h = let c = equal_cut x n r h in rw c at (answered x (rw c r, rw c h))

-- Whatever is answered is the held number of a coordinate that the double equals.
pub coordinate_only : (x : Float) (h : ℕ) → coordinate_of x ≡ Some h → Held h × Equals x (millimetres h) × (held_of (millimetres h) ≡ h)
coordinate_only x h e =
    let w = only_exact x h e in
    let m : millimetres h ≡ to_signed 63 x = ap millimetres (sym w.1) ∙ millimetres_held (to_signed 63 x) w.0.0 in
    (rw (← w.1) (held_in (to_signed 63 x) w.0.0), rw m w.0.1, rw m w.1)

-- ---- document 01's cases: NaN, infinities, negative zero, a fraction

pub nan_refused : coordinate_of nan ≡ None
unfolding coordinate_of to_signed eq
nan_refused = refl

pub infinite_refused : (s : Bool) → coordinate_of (inf s) ≡ None
unfolding coordinate_of to_signed eq
infinite_refused true = refl
infinite_refused false = refl

-- The pattern of -0.0.
pub minus_zero : coordinate_of (of_bits binary64 (2 ^ 63)) ≡ Some 10_000_000
unfolding coordinate_of to_signed eq of_int of_bits
minus_zero = refl

-- The pattern of 3.5.
pub fraction_refused : coordinate_of (of_bits binary64 0x400c000000000000) ≡ None
unfolding coordinate_of to_signed eq of_int of_bits
fraction_refused = refl
