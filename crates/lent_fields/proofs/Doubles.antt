-- Whole numbers as doubles. The idea: the format counts them without a gap up to 2 ^ 53. Assumes nothing.
use native.Mathlib.Nat.{le_trans}
use lib.Dec.{T, le→leb, lt→ltb, lit≤}
use lib.Ieee.{binary64, in_float}
use lib.IntN.{ℤ, pos, negsuc}
use Rattle.whole.specs.Numbers.{Within}

-- A number of 32 bits and a sign is a double exactly.
pub in_float_lem : (z : ℤ) → Within 4294967296 z → T (in_float binary64 z)
unfolding in_float
in_float_lem (pos n) h = le→leb n _ (le_trans h.size (lit≤ tt))
in_float_lem (negsuc n) h = lt→ltb n _ (le_trans h.size (lit≤ tt))
