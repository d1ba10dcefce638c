-- The pattern of a whole number in range is 8 bytes of a double that is that coordinate. The idea: the double of a whole number is one of
-- the format's, so its pattern is read back as it, and it equals itself. Assumes nothing.
use mathlib.Core.Path.{◌≡◌, refl}
use mathlib.Core.Bool.{Bool, true, false, beq, ◌||◌}
use Prim.Native.Nat.{ℕ, ◌^◌, ◌*◌, ◌<◌}
use borrow.Author.Tests.{eq-eqb}
use lib.Ieee.{Float, nan, inf, fin, binary64, eq, of_int, of_bits, up, down}
use lib.Ieee.Bits.{of_bits-to_bits, to_bits-lt}
use lib.Ieee.Exact.{HasValue}
use lib.Ieee.Fits.{of_int-fits}
use lib.IntN.{ℤ}
use Rattle.whole.specs.Numbers.{Within}
use Rattle.sheet_coordinate.specs.Coordinate.{held_of, coordinate_of}
use Rattle.std.specs.Prelude.{Some}
use Rattle.sheet_coordinate.proofs.Doubles.{int_value, sign}
use Rattle.sheet_coordinate.proofs.Meaning.{coordinate_is}
use Rattle.sheet_written.specs.Normal.{pattern_of}

pub pattern_eight : (z : ℤ) → pattern_of z < 2 ^ 64
unfolding pattern_of
pattern_eight z = to_bits-lt binary64 (of_int binary64 z) (of_int-fits binary64 z)

-- The pattern is that of the double.
pub pattern_double : (z : ℤ) → of_bits binary64 (pattern_of z) ≡ of_int binary64 z
unfolding pattern_of
pattern_double z = of_bits-to_bits binary64 (of_int binary64 z) (of_int-fits binary64 z)

-- A double that has a value equals itself.
same_sign : (s b : Bool) → (beq s s || b) ≡ true
same_sign true b = refl
same_sign false b = refl

equals_itself : (x : Float) (s : Bool) (k : ℕ) → HasValue x s k 1 → eq x x ≡ true
unfolding eq
equals_itself nan s k v = absurd v
equals_itself (inf t) s k v = absurd v
equals_itself (fin t m e) s k v = rw (eq-eqb (m * up e * down e) (m * up e * down e) refl) (same_sign t _)

pub pattern_is : (z : ℤ) → Within 10_000_000 z → coordinate_of (of_bits binary64 (pattern_of z)) ≡ Some (held_of z)
pattern_is z r = rw (pattern_double z) ((coordinate_is (of_int binary64 z) z r).1 (equals_itself (of_int binary64 z) (sign z) _ (int_value z r)))
