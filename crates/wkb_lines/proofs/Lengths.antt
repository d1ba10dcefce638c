-- How many bytes lines have: 9 for the whole and for each line, 16 for each point, by induction on the lists. Assumes nothing.
use mathlib.Core.Path.{◌≡◌, refl}
use mathlib.Core.Bool.{true}
use mathlib.Core.List.{List, [], ◌∷◌, flat_map}
use Prim.Native.Nat.{ℕ, ◌+◌, ◌*◌}
use native.Mathlib.Omega.{arith}
use lib.ListN.{length, length-append}
use Rattle.lent_little.specs.Ordered.{bytes, ordered}
use Rattle.wkb_header.specs.Header.{headed}
use Rattle.wkb.specs.Standard.{Pair, encode_point}
use Rattle.wkb_lines.specs.Lines.{line_string, multi_line_string, encode_line, encode_lines}

pub headed_nine : (kind n : ℕ) → length (headed kind n) ≡ 9
unfolding bytes ordered
headed_nine kind n = refl

pub point_sixteen : (p : Pair) → length (encode_point true p) ≡ 16
unfolding bytes ordered encode_point
point_sixteen p = refl

points_sixteen : (l : List Pair) → length (flat_map (encode_point true) l) ≡ 16 * length l
unfolding flat_map
points_sixteen [] = omega arith
points_sixteen (p ∷ l) = omega (arith, length-append (encode_point true p) (flat_map (encode_point true) l), point_sixteen p, points_sixteen l)

pub line_length : (l : List Pair) → length (encode_line l) ≡ 9 + 16 * length l
line_length l = omega (arith, length-append (headed line_string (length l)) (flat_map (encode_point true) l), headed_nine line_string (length l), points_sixteen l)

all_lines : (ls : List (List Pair)) → length (flat_map encode_line ls) ≡ 9 * length ls + 16 * length (flat_map (λ l. l) ls)
unfolding flat_map
all_lines [] = omega arith
all_lines (l ∷ ls) =
    omega (arith, length-append (encode_line l) (flat_map encode_line ls), line_length l, all_lines ls, length-append l (flat_map (λ l. l) ls))

pub lines_length : (ls : List (List Pair)) → length (encode_lines ls) ≡ 9 + 9 * length ls + 16 * length (flat_map (λ l. l) ls)
lines_length ls =
    omega (arith, length-append (headed multi_line_string (length ls)) (flat_map encode_line ls), headed_nine multi_line_string (length ls), all_lines ls)
