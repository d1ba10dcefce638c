-- The table at the front of the held numbers: six numbers for each triangle, one corner behind the other. Assumes nothing.
use mathlib.Core.Path.{◌≡◌, refl, sym, ◌∙◌, ap}
use mathlib.Core.List.{List, [], ◌∷◌, ◌++◌, map, flat_map}
use Prim.Native.Nat.{ℕ, zero, suc, ◌+◌, ◌-◌, ◌*◌, ◌≤◌, ◌<◌}
use native.Mathlib.Omega.{arith}
use lib.IntN.{ℤ}
use lib.ListN.{length, get_or, take, drop, set, length-set}
use Rattle.whole.specs.Sums.{All}
use Rattle.whole.proofs.Laid.{one_laid, all_laid}
use Rattle.plane.specs.Points.{Triangle}
use Rattle.plane.specs.Corners.{millimetres}
use Rattle.plane.specs.Keys.{point, Held, key_of, Key}
use Rattle.table.specs.Sides.{triangles_of}
use Rattle.sheet_form.specs.Numbers.{point_numbers, triangle_numbers, counted}
use Rattle.sheet_edges.specs.Standing.{NumbersAt, corner_at}
use Rattle.sheet_edges.proofs.Walk.{count_first, key_at, point_at_lem, point_first}

-- A triangle stands at the place: three points, one behind the other.
triangle_first : (numbers : List ℕ) (at : ℕ) (t : Triangle) (rest : List ℤ) → NumbersAt triangle_numbers numbers at t rest
    → (at + 5 < length numbers) × (point (corner_at numbers at) ≡ t.a) × (point (corner_at numbers (at + 2)) ≡ t.b) × (point (corner_at numbers (at + 2 + 2)) ≡ t.c)
    × (map millimetres (drop (at + 2 + 2 + 2) numbers) ≡ rest)
triangle_first numbers at t rest s =
    let u = point_first numbers at t.a (point_numbers t.b ++ point_numbers t.c ++ rest) s in
    let v = point_first numbers (at + 2) t.b (point_numbers t.c ++ rest) u.2 in
    let w = point_first numbers (at + 2 + 2) t.c rest v.2 in
    (omega arith, u.1, v.1, w.1, w.2)

-- Behind the triangles stands the rest, and all their numbers are there.
triangles_behind : (numbers : List ℕ) (at : ℕ) (table : List Triangle) (rest : List ℤ) → at ≤ length numbers → map millimetres (drop at numbers) ≡ flat_map triangle_numbers table ++ rest
    → (at + 6 * length table ≤ length numbers) × (map millimetres (drop (at + 6 * length table) numbers) ≡ rest)
unfolding flat_map
triangles_behind numbers at [] rest h s = let e : at + 0 ≡ at = omega arith in (omega arith, ap (λ n. map millimetres (drop n numbers)) e ∙ s)
triangles_behind numbers at (t ∷ table) rest h s =
    let u = triangle_first numbers at t (flat_map triangle_numbers table ++ rest) s in
    let v = triangles_behind numbers (at + 2 + 2 + 2) table rest (omega arith) u.4 in
    let e : at + 6 * suc (length table) ≡ at + 2 + 2 + 2 + 6 * length table = omega arith in
    (omega arith, ap (λ n. map millimetres (drop n numbers)) e ∙ v.1)

-- The count of the table stands first, and behind its triangles' numbers stands the rest.
module _ (numbers : List ℕ) (table : List Triangle) (rest : List ℤ) (s : NumbersAt (counted triangle_numbers) numbers 0 table rest) where
  pub table_behind : (get_or numbers 0 0 ≡ length table + 10_000_000) × (map millimetres (drop (1 + 6 * length table) numbers) ≡ rest)
  table_behind = let u = count_first triangle_numbers numbers 0 table rest s in (u.1, (triangles_behind numbers 1 table rest (omega arith) u.2).1)

  pub table_room : 1 + 6 * length table ≤ length numbers
  table_room = let u = count_first triangle_numbers numbers 0 table rest s in (triangles_behind numbers 1 table rest (omega arith) u.2).0

-- The numbers of so many corners, which stand from the place on.
abbrev pub keys_from : List ℕ → ℕ → ℕ → List ℕ
keys_from numbers at zero = []
keys_from numbers at (suc n) = key_of (corner_at numbers at) ∷ keys_from numbers (at + 2) n

pub length_keys : (numbers : List ℕ) (at n : ℕ) → length (keys_from numbers at n) ≡ n
length_keys numbers at zero = refl
length_keys numbers at (suc n) = ap suc (length_keys numbers (at + 2) n)

keys_at : (numbers : List ℕ) (at n j : ℕ) → j < n → get_or (keys_from numbers at n) j 0 ≡ key_of (corner_at numbers (at + 2 * j))
keys_at numbers at zero j h = absurd (omega arith)
keys_at numbers at (suc n) zero h = let e : at ≡ at + 2 * 0 = omega arith in ap (λ i. key_of (corner_at numbers i)) e
keys_at numbers at (suc n) (suc j) h =
    let e : at + 2 + 2 * j ≡ at + 2 * suc j = omega arith in keys_at numbers (at + 2) n j (omega arith) ∙ ap (λ i. key_of (corner_at numbers i)) e

-- The first i of the list are laid down, and the others are left.
abbrev pub Laying : List ℕ → List ℕ → ℕ → Type 0
Laying numbers keys i = take i keys ++ keys_from numbers (1 + 2 * i) (length keys - i) ≡ keys_from numbers 1 (length keys)

pub laying_none : (numbers keys : List ℕ) → Laying numbers keys 0
laying_none numbers keys = let e : length keys - 0 ≡ length keys = omega arith in ap (keys_from numbers 1) e

pub laying_more : (numbers keys : List ℕ) (i : ℕ) → i < length keys → Laying numbers keys i → Laying numbers (set keys i (key_of (corner_at numbers (1 + 2 * i)))) (i + 1)
laying_more numbers keys i h w =
    let m : length keys - i ≡ suc (length keys - (i + 1)) = omega arith in
    let e : 1 + 2 * (i + 1) ≡ 1 + 2 * i + 2 = omega arith in
    rw (length-set, e, one_laid keys (keys_from numbers (1 + 2 * i + 2) (length keys - (i + 1))) i (key_of (corner_at numbers (1 + 2 * i))) h) (rw m at w)

pub laid_all : (numbers keys : List ℕ) (i : ℕ) → length keys ≤ i → Laying numbers keys i → keys ≡ keys_from numbers 1 (length keys)
laid_all numbers keys i h w =
    let e : length keys - i ≡ 0 = omega arith in
    sym (all_laid keys (keys_from numbers (1 + 2 * i) (length keys - i)) i h (ap (keys_from numbers (1 + 2 * i)) e)) ∙ w

module _ (numbers : List ℕ) (held : All Held numbers) where
  pub keys_are : (at n : ℕ) → All Key (keys_from numbers at n)
  keys_are at zero = tt
  keys_are at (suc n) = (key_at numbers held at, keys_are (at + 2) n)

  -- The corners of the triangles that stand there.
  keys_triangles : (at : ℕ) (table : List Triangle) (rest : List ℤ) → map millimetres (drop at numbers) ≡ flat_map triangle_numbers table ++ rest
      → triangles_of (keys_from numbers at (3 * length table)) ≡ table
  unfolding flat_map
  keys_triangles at [] rest s = refl
  keys_triangles at (t ∷ table) rest s =
      let e : 3 * suc (length table) ≡ suc (suc (suc (3 * length table))) = omega arith in
      let f = triangle_first numbers at t (flat_map triangle_numbers table ++ rest) s in
      rw (e, point_at_lem numbers held at ∙ f.1, point_at_lem numbers held (at + 2) ∙ f.2, point_at_lem numbers held (at + 2 + 2) ∙ f.3)
      (ap (λ l. t ∷ l) (keys_triangles (at + 2 + 2 + 2) table rest f.4))

  pub keys_table : (table : List Triangle) (rest : List ℤ) → NumbersAt (counted triangle_numbers) numbers 0 table rest → triangles_of (keys_from numbers 1 (3 * length table)) ≡ table
  keys_table table rest s = keys_triangles 1 table rest (count_first triangle_numbers numbers 0 table rest s).2

-- A table that stands at the front of held numbers is the triangles of its corners' numbers, three for each, as they stand there.
pub held_keys : (numbers : List ℕ) → All Held numbers → (table : List Triangle) (rest : List ℤ) → NumbersAt (counted triangle_numbers) numbers 0 table rest
    → (keys : List ℕ) × (length keys ≡ 3 * length table) × (triangles_of keys ≡ table) × ((k : ℕ) → k < length keys → get_or keys k 0 ≡ key_of (corner_at numbers (1 + 2 * k)))
held_keys numbers held table rest s =
    let n = 3 * length table in
    let long = length_keys numbers 1 n in
    (keys_from numbers 1 n, long, keys_table numbers held table rest s, λ k h. keys_at numbers 1 n k (omega arith))
