-- The text of the listing: decimal numbers without idle zeros, one blank between fields, a line feed after each line.
use Rattle.std.specs.Prelude.{cond, List, [], ◌∷◌, ◌++◌, ℕ, zero, suc, ◌+◌, ◌/◌, ◌%◌, leb, ℤ, pos, negsuc}
use Prim.Native.Char.{code}
use Prim.Native.String.{String}

-- A word as bytes, in ASCII.
abbrev pub ascii : String → List ℕ
ascii String.[] = []
ascii (String.◌∷◌ c s) = code c ∷ ascii s

-- The digits of a number, so many at most: those of its tenth, and then its last.
abbrev pub digits : ℕ → ℕ → List ℕ
digits zero n = []
digits (suc most) n = cond (leb n 9) ((48 + n) ∷ []) (digits most (n / 10) ++ (48 + n % 10) ∷ [])

-- A number in decimal; 20 digits are enough for 64 bits.
unfoldable pub decimal : ℕ → List ℕ
decimal n = digits 20 n

-- A whole number, with a minus sign where it is negative.
abbrev pub decimal_of : ℤ → List ℕ
decimal_of (pos n) = decimal n
decimal_of (negsuc n) = 45 ∷ decimal (suc n)

-- A line: a word, two numbers, one blank between fields, and a line feed.
abbrev pub line_of : List ℕ → ℤ → ℤ → List ℕ
line_of word a b = word ++ 32 ∷ decimal_of a ++ 32 ∷ decimal_of b ++ 10 ∷ []
