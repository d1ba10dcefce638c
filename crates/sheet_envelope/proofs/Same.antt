-- When an envelope equals a frame as numbers: where each double equals its bound; so never with a NaN, and always for the envelope made around the frame.
-- The idea: a whole number as a double is finite or an infinity, never the NaN, and only the NaN differs from itself. Assumes nothing.
use mathlib.Core.Path.{◌≡◌, refl, sym, ◌∙◌, subst}
use mathlib.Core.Logic.{◌↔◌}
use mathlib.Core.Bool.{Bool, true, false, not, ◌&&◌, false≢true}
use Prim.Native.Nat.{ℕ, zero, suc, ◌+◌, ◌-◌, ◌*◌, ◌/◌, ◌%◌, ◌^◌, compare}
use lib.Dec.{T, ltb}
use lib.Ieee.{Float, nan, inf, Format, prec, emax, low, binary64, eq, ne, is_nan, of_int, of_bits, size, nearest, odd, units, round}
use lib.Ieee.Compare.{differs_from_itself}
use lib.IntN.{ℤ, pos, negsuc}
use Rattle.whole.proofs.Tests.{by_equal}
use Rattle.table.specs.Table.{Frame}
use Rattle.sheet_coordinate.specs.Coordinate.{Equals}
use Rattle.sheet_coordinate.proofs.Doubles.{and_true}
use Rattle.sheet_envelope.specs.declared.Envelope.{Envelope}
use Rattle.sheet_envelope.specs.Envelope.{around, equals, same_frame, Same}

-- ---- exactly
pub same_is : (e : Envelope) (f : Frame) → (same_frame e f ≡ true) ↔ Same e f
unfolding same_frame
same_is e f = (to, λ s. rw (s.left, s.right, s.low, s.high) refl)
  where
    to : (equals e.left f.left && equals e.right f.right && equals e.low f.low && equals e.high f.high) ≡ true → Same e f
    to h =
        let (hlow, high) = and_true _ _ h in
        let (hright, low) = and_true _ _ hlow in
        let (left, right) = and_true _ _ hright in
        record { left = left; right = right; low = low; high = high }

-- ---- a NaN, and -0
pub nan_equals_nothing : (n : ℤ) → equals nan n ≡ false
unfolding eq
nan_equals_nothing n = refl

pub minus_zero_equals : equals (of_bits binary64 (2 ^ 63)) (pos 0) ≡ true
unfolding eq of_int of_bits
minus_zero_equals = refl

-- ---- the envelope around a frame
odd_number : (d : ℕ) (s : Bool) (q k l : ℕ) → is_nan (odd d s q k l) ≡ false
unfolding odd is_nan
odd_number d s zero k l = refl
odd_number d s (suc q) k l = refl

units_number : (f : Format) (s : Bool) (q k : ℕ) → is_nan (units f s q k) ≡ false
unfolding units is_nan
units_number f s q k =
    by_equal (λ x. is_nan x ≡ false) (ltb (q * 2 ^ k) (2 ^ (low f + suc (emax f)))) (odd (suc (prec f)) s q k (low f)) (inf s) (λ e. odd_number (suc (prec f)) s q k (low f)) (λ e. refl)

round_number : (f : Format) (s : Bool) (num den : ℕ) → is_nan (round f s num den) ≡ false
unfolding round
round_number f s num den =
    let n = num * 2 ^ low f in
    let k = size (n / den) - prec f in
    let u = den * 2 ^ k in
    units_number f s (nearest (n / u) (compare (n % u * 2) u)) k

whole_number : (n : ℤ) → is_nan (of_int binary64 n) ≡ false
unfolding of_int
whole_number (pos n) = round_number binary64 false n 1
whole_number (negsuc n) = round_number binary64 true (suc n) 1

nan_is : is_nan nan ≡ true
unfolding is_nan
nan_is = refl

itself : (x : Float) → is_nan x ≡ false → eq x x ≡ true
unfolding ne
itself x h = go (eq x x) refl
  where
    go : (b : Bool) → eq x x ≡ b → b ≡ true
    go true e = refl
    go false e =
        let z : x ≡ nan = differs_from_itself x (subst (λ (b : Bool). T (not b)) (sym e) tt) in
        absurd (false≢true (sym h ∙ subst (λ y. is_nan y ≡ true) (sym z) nan_is))

-- A whole number's double equals it, and a frame's envelope the frame.
pub double_equals : (n : ℤ) → Equals (of_int binary64 n) n
double_equals n = itself (of_int binary64 n) (whole_number n)

pub around_same : (f : Frame) → same_frame (around f) f ≡ true
around_same f = (same_is (around f) f).1 (record { left = double_equals f.left; right = double_equals f.right; low = double_equals f.low; high = double_equals f.high })
