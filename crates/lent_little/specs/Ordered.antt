-- Unsigned numbers and doubles as bytes, in either byte order.
use Rattle.std.specs.Prelude.{Bool, true, false, List, [], ◌∷◌, reverse, ℕ, zero, suc, ◌+◌, ◌*◌, ◌/◌, ◌%◌, leb, Float, length, take, drop}
use Rattle.std.specs.Float.{binary64}
use Rattle.std.specs.Float.Ieee.{of_bits}

-- The number of a list of bytes, the least significant first; and a number as n bytes, the least significant first.
unfoldable pub number : List ℕ → ℕ
number [] = 0
number (b ∷ l) = b + 256 * number l

unfoldable pub bytes : ℕ → ℕ → List ℕ
bytes zero v = []
bytes (suc n) v = v % 256 ∷ bytes n (v / 256)

-- The least significant byte stands first in little-endian order and last in big-endian order.
unfoldable pub ordered : Bool → List ℕ → List ℕ
ordered true l = l
ordered false l = reverse l

-- The number of bytes in a byte order, and a number as n bytes in a byte order.
abbrev pub number_of : Bool → List ℕ → ℕ
number_of little l = number (ordered little l)

abbrev pub bytes_of : Bool → ℕ → ℕ → List ℕ
bytes_of little n v = ordered little (bytes n v)

-- n bytes remain at a place.
abbrev pub remains : List ℕ → ℕ → ℕ → Bool
remains s at n = leb (at + n) (length s)

-- The n bytes at a place, the unsigned number of 4 bytes there, and the double of 8 bytes there: the IEEE value of its pattern, every NaN
-- pattern the one NaN.
abbrev pub field : List ℕ → ℕ → ℕ → List ℕ
field s at n = take n (drop at s)

unfoldable pub word_at : Bool → List ℕ → ℕ → ℕ
word_at little s at = number_of little (field s at 4)

unfoldable pub double_at : Bool → List ℕ → ℕ → Float
double_at little s at = of_bits binary64 (number_of little (field s at 8))
