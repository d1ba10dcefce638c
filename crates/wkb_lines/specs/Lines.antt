-- Lines in the binary form of OGC 06-103r4, little-endian: a LineString and a MultiLineString.
use Rattle.std.specs.Prelude.{true, ℕ, length}
use mathlib.Core.List.{List, ◌++◌, flat_map}
use Rattle.wkb_header.specs.Header.{headed}
use Rattle.wkb.specs.Standard.{Pair, encode_point}

-- The type numbers of the two.
abbrev pub line_string : ℕ
line_string = 2

abbrev pub multi_line_string : ℕ
multi_line_string = 5

-- A LineString counts its points, and has them.
abbrev pub encode_line : List Pair → List ℕ
encode_line l = headed line_string (length l) ++ flat_map (encode_point true) l

-- A MultiLineString counts its LineStrings, and has them.
abbrev pub encode_lines : List (List Pair) → List ℕ
encode_lines ls = headed multi_line_string (length ls) ++ flat_map encode_line ls
