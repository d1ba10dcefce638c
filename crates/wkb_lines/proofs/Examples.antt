-- Two lines written out by hand from the standard: by computation. Assumes nothing.
use mathlib.Core.Path.{◌≡◌, refl}
use mathlib.Core.List.{[], ◌∷◌, flat_map}
use Prim.Native.Nat.{ℕ}
use Rattle.lent_little.specs.Ordered.{bytes, ordered}
use Rattle.wkb.specs.Standard.{Pair, encode_point}
use Rattle.wkb_lines.specs.Lines.{encode_lines}

-- The patterns of the doubles 0, 1 and -2: sign, exponent with the bias 1,023, fraction.
abbrev nought : ℕ
nought = 0

abbrev one : ℕ
one = 0x3ff0_0000_0000_0000

abbrev minus_two : ℕ
minus_two = 0xc000_0000_0000_0000

abbrev point : ℕ → ℕ → Pair
point x y = record { x = x; y = y }

-- MULTILINESTRING ((0 0, 1 0, 1 -2), (1 1, 0 0)): order 1, type 5, 2 lines; order 1, type 2, 3 points; order 1, type 2, 2 points.
pub two_lines :
    encode_lines ((point nought nought ∷ point one nought ∷ point one minus_two ∷ []) ∷ (point one one ∷ point nought nought ∷ []) ∷ [])
    ≡ 1 ∷ 5 ∷ 0 ∷ 0 ∷ 0 ∷ 2 ∷ 0 ∷ 0 ∷ 0
    ∷ 1 ∷ 2 ∷ 0 ∷ 0 ∷ 0 ∷ 3 ∷ 0 ∷ 0 ∷ 0
    ∷ 0 ∷ 0 ∷ 0 ∷ 0 ∷ 0 ∷ 0 ∷ 0 ∷ 0 ∷ 0 ∷ 0 ∷ 0 ∷ 0 ∷ 0 ∷ 0 ∷ 0 ∷ 0
    ∷ 0 ∷ 0 ∷ 0 ∷ 0 ∷ 0 ∷ 0 ∷ 240 ∷ 63 ∷ 0 ∷ 0 ∷ 0 ∷ 0 ∷ 0 ∷ 0 ∷ 0 ∷ 0
    ∷ 0 ∷ 0 ∷ 0 ∷ 0 ∷ 0 ∷ 0 ∷ 240 ∷ 63 ∷ 0 ∷ 0 ∷ 0 ∷ 0 ∷ 0 ∷ 0 ∷ 0 ∷ 192
    ∷ 1 ∷ 2 ∷ 0 ∷ 0 ∷ 0 ∷ 2 ∷ 0 ∷ 0 ∷ 0
    ∷ 0 ∷ 0 ∷ 0 ∷ 0 ∷ 0 ∷ 0 ∷ 240 ∷ 63 ∷ 0 ∷ 0 ∷ 0 ∷ 0 ∷ 0 ∷ 0 ∷ 240 ∷ 63
    ∷ 0 ∷ 0 ∷ 0 ∷ 0 ∷ 0 ∷ 0 ∷ 0 ∷ 0 ∷ 0 ∷ 0 ∷ 0 ∷ 0 ∷ 0 ∷ 0 ∷ 0 ∷ 0 ∷ []
unfolding flat_map bytes ordered encode_point
two_lines = refl
