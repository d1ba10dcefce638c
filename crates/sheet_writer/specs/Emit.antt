-- What is written for the numbers at the front of a list, level by level: a point is level 0, a ring 1, a polygon 2, a member 3 and all the
-- polygons of the sheet 4; each of these but a point is a count and so many of the level below.
use Rattle.std.specs.Prelude.{Bool, true, not, ◌&&◌, cond, List, [], ◌∷◌, ◌++◌, ℕ, zero, suc, ◌+◌, ◌-◌, ◌*◌, leb, eqb, ℤ, pos, negsuc, length, get_or}
use Rattle.std.proofs.Math.Option.{Option, none, some}
use Rattle.whole.specs.Numbers.{eq_z}
use Rattle.wkb_kinds.specs.declared.Kind.TheVariants.{Polygon, MultiPolygon, Collection, Tin, Triangle}
use Rattle.lent_little.specs.Ordered.{bytes_of}
use Rattle.wkb.specs.Standard.{header, encode_point}
use Rattle.sheet_written.specs.Fits.{from_to, in_range}
use Rattle.sheet_written.specs.Normal.{pattern_of}

-- The bytes written, how many points are among them, and the numbers behind.
pub record Emitted : Type 0 where
  pub bytes : List ℕ
  pub points : ℕ
  pub rest : List ℤ

-- First one thing, then with the numbers behind it another.
abbrev pub joined : Emitted → Option Emitted → Option Emitted
joined e none = none
joined e (some f) = some (record { bytes = e.bytes ++ f.bytes; points = e.points + f.points; rest = f.rest })

abbrev pub followed : Option Emitted → (List ℤ → Option Emitted) → Option Emitted
followed none f = none
followed (some e) f = joined e (f e.rest)

-- The limits of a level's count.
abbrev pub low : ℕ → ℕ
low k = cond (eqb k 1) 4 (cond (eqb k 4) 0 1)

abbrev pub high : ℕ → ℕ
high k = cond (eqb k 1) 4096 64

-- What is written before the things of a level: a ring's count, a Polygon's header, the MultiPolygon's of a member that has not one polygon.
unfoldable pub heading : ℕ → ℕ → List ℕ
heading k n =
    cond (eqb k 1) (bytes_of true 4 n) (cond (eqb k 2) (header true Polygon n) (cond (eqb k 3 && not (eqb n 1)) (header true MultiPolygon n) []))

-- The first and the last of n points are the same; above level 1 nothing is asked.
abbrev pub closed : ℕ → List ℤ → Bool
closed n l = leb (2 * n) (length l) && eq_z (get_or l (2 * n - 2) (pos 0)) (get_or l 0 (pos 0)) && eq_z (get_or l (2 * n - 1) (pos 0)) (get_or l 1 (pos 0))

unfoldable pub closes : ℕ → ℕ → List ℤ → Bool
closes k n l = cond (eqb k 1) (closed n l) true

-- A point in range.
unfoldable pub emit_point : List ℤ → Option Emitted
emit_point [] = none
emit_point (x ∷ []) = none
emit_point (x ∷ y ∷ l) =
    cond (in_range x && in_range y) (some (record { bytes = encode_point true (record { x = pattern_of x; y = pattern_of y }); points = 1; rest = l })) none

-- So many things, one behind the other.
unfoldable pub emit_many : (List ℤ → Option Emitted) → ℕ → List ℤ → Option Emitted
emit_many f zero l = some (record { bytes = []; points = 0; rest = l })
emit_many f (suc n) l = followed (f l) (emit_many f n)

-- A count within the level's limits, and so many things of the level below.
abbrev pub emit_counted : ℕ → (List ℤ → Option Emitted) → List ℤ → Option Emitted
emit_counted k f [] = none
emit_counted k f (negsuc n ∷ l) = none
emit_counted k f (pos n ∷ l) =
    cond (from_to (low k) (high k) n && closes k n l) (joined (record { bytes = heading k n; points = 0; rest = l }) (emit_many f n l)) none

unfoldable pub emit : ℕ → List ℤ → Option Emitted
emit zero = emit_point
emit (suc k) = emit_counted (suc k) (emit k)

-- A table piece: a Triangle of one ring of four points, the fourth the first again.
abbrev pub again : List ℤ → Option Emitted → Option Emitted
again l none = none
again l (some e) =
    some (record {
      bytes = header true Triangle 1 ++ bytes_of true 4 4 ++ e.bytes ++ encode_point true (record { x = pattern_of (get_or l 0 (pos 0)); y = pattern_of (get_or l 1 (pos 0)) });
      points = e.points;
      rest = e.rest;
    })

unfoldable pub emit_piece : List ℤ → Option Emitted
emit_piece l = again l (emit_many emit_point 3 l)

-- The table's count and pieces, then the polygons, and nothing left over; at most 4,096 polygon points. The sheet's own header counts the table
-- and the polygons, whose count stands behind the table's numbers.
abbrev pub polygon_count : ℕ → List ℤ → ℤ
polygon_count t l = get_or l (6 * t) (pos 0)

abbrev pub ended : Option Emitted → Option (List ℕ)
ended none = none
ended (some e) = cond (leb (length e.rest) 0 && leb e.points 4096) (some e.bytes) none

abbrev pub sheet_header : ℤ → List ℕ
sheet_header (pos n) = header true Collection (n + 1)
sheet_header (negsuc n) = []

abbrev pub uncounted : Option Emitted → Option Emitted
uncounted none = none
uncounted (some e) = some (record { bytes = e.bytes; points = 0; rest = e.rest })

abbrev pub emit_table : ℕ → List ℤ → Option Emitted
emit_table t l =
    joined (record { bytes = sheet_header (polygon_count t l) ++ header true Tin t; points = 0; rest = l }) (uncounted (emit_many emit_piece t l))

unfoldable pub emit_sheet : List ℤ → Option (List ℕ)
emit_sheet [] = none
emit_sheet (negsuc t ∷ l) = none
emit_sheet (pos t ∷ l) = cond (from_to 2 1024 t) (ended (followed (emit_table t l) (emit 4))) none
