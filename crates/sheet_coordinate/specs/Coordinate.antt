-- "A double is a coordinate if it is a whole number from -10,000,000 to 10,000,000 (millimetres). Negative zero counts as 0. NaN,
-- infinities and fractions are refused. The whole number then equals the double exactly."
use Rattle.std.specs.Prelude.{◌≡◌, Option, Some, None, ℕ, true, cond, ◌&&◌, ℤ, pos, ◌+ℤ◌, nat_le, unsigned_abs, Float}
use Rattle.std.specs.Float.{binary64}
use Rattle.std.specs.Float.Ieee.{eq, of_int, to_signed}

-- The double equals the whole number, as IEEE 754 compares: -0 equals 0, a NaN equals nothing.
abbrev pub Equals : Float → ℤ → Type 0
Equals x n = eq x (of_int binary64 n) ≡ true

-- The number plus 10,000,000: what crate plane holds for a coordinate.
abbrev pub held_of : ℤ → ℕ
held_of n = unsigned_abs (n +ℤ pos 10_000_000)

-- The double cut toward zero, as it is held, if that whole number is from -10,000,000 to 10,000,000 and the double equals it; else not
-- a coordinate.
unfoldable pub coordinate_of : Float → Option ℕ
coordinate_of x = let n = to_signed 63 x in cond (nat_le (unsigned_abs n) 10_000_000 && eq x (of_int binary64 n)) (Some (held_of n)) None
