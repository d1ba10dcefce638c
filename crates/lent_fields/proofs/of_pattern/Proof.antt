-- `lent_fields::of_pattern` meets its contract: the test is `nan_bits`, and 0.0 / 0.0 is the NaN.
-- Assumes nothing.
use borrow.Author.Rules.{rules}
use borrow.Author.Tests.{le-ltb, lt-ltb}
use mathlib.Core.Path.{◌≡◌, refl, sym, ◌∙◌}
use mathlib.Core.Bool.{true, false≢true}
use Prim.Native.Nat.{ℕ, ◌%◌, ◌<◌}
use lib.Ieee.{Float, nan, inf, fin, binary64, of_bits, is_nan, div}
use lib.Ieee.Bits.{nan_bits_above, nan_bits_is}
use Rattle.lent_fields.proofs.of_pattern.Statement.{statement}
use Rattle.lent_fields.proofs.of_pattern.Tie as tie

only_nan : (x : Float) → is_nan x ≡ true → x ≡ nan
unfolding is_nan
only_nan nan h = refl
only_nan (inf s) h = absurd (false≢true h)
only_nan (fin s m e) h = absurd (false≢true h)

above : (b : ℕ) → 0x7ff0_0000_0000_0000 < b % 0x8000_0000_0000_0000 → of_bits binary64 b ≡ nan
above b h = only_nan (of_bits binary64 b) (sym (nan_bits_is binary64 b) ∙ nan_bits_above binary64 b ∙ lt-ltb _ _ h)

float_from_bits_result : tie.Need-float_from_bits-result
float_from_bits_result c = rw (nan_bits_above binary64, le-ltb _ _ c.if-b-gt9218868437227405312.false) tt

returns : tie.Need-returns-then-b-gt9218868437227405312
unfolding div of_bits
returns c = sym (above _ c.if-b-gt9218868437227405312.true)

returns_2 : tie.Need-returns-else-b-gt9218868437227405312
returns_2 c = search rules

pub of_pattern_spec : {M : Type 1} → statement M
of_pattern_spec = tie.close (tie.spec float_from_bits_result returns returns_2)
