-- Document 01's table "Refusal numbers", with 50, 51 and 52 of request No. 1, 21 of No. 2, 53 of No. 6, 54 of No. 7, 55 of No. 8 and 57 of No. 10, row by row.
use Rattle.std.specs.Prelude.{Bool, ◌&&◌, List, [], ◌∷◌, ℕ, T, eqb, leb}
use Rattle.whole.specs.Sums.{any}

-- A row: its code, and the items that go with it, from the first to the last.
pub record Row : Type 0 where
  pub code : ℕ
  pub from : ℕ
  pub to : ℕ

-- A code whose item is 0; is a member, the table being 1 and 0 the sheet's own header; is a triangle; is a polygon.
abbrev pub alone : ℕ → Row
alone code = record { code = code; from = 0; to = 0 }

abbrev pub with_member : ℕ → Row
with_member code = record { code = code; from = 0; to = 65 }

abbrev pub with_triangle : ℕ → Row
with_triangle code = record { code = code; from = 1; to = 1024 }

abbrev pub with_polygon : ℕ → Row
with_polygon code = record { code = code; from = 1; to = 64 }

-- 1 fewer bytes remain than the next field needs, 2 byte order neither 0 nor 1, 3 type not allowed at this place, 4 a count outside the list,
-- 5 not a coordinate, 6 a ring's last point differs from its first, 7 bytes after the sheet, 8 a collection at depth 5; 10 rule A, 11 rule B,
-- 12 rule C; 20 not carried, 21 no ground; 30 repair can't be done; 40 the answer is longer than the lent bytes, 41 asked member isn't on the sheet,
-- 42 numbers given to the writer break a limit, range or closing, or don't make up a whole sheet; 50 not a blob, 51 an envelope kind of 2 to 7, 52 an envelope
-- that isn't the frame, 53 an index that isn't the table's own; 54 an unknown way to fill gaps; 55 a point that belongs to no triangle; 57 an unknown mode.
abbrev pub rows : List Row
rows =
    with_member 1
    ∷ with_member 2
    ∷ with_member 3
    ∷ with_member 4
    ∷ with_member 5
    ∷ with_member 6
    ∷ alone 7
    ∷ with_member 8
    ∷ with_triangle 10
    ∷ with_triangle 11
    ∷ alone 12
    ∷ with_polygon 20
    ∷ with_polygon 21
    ∷ alone 30
    ∷ alone 40
    ∷ alone 41
    ∷ alone 42
    ∷ alone 50
    ∷ alone 51
    ∷ alone 52
    ∷ alone 53
    ∷ alone 54
    ∷ alone 55
    ∷ alone 57
    ∷ []

-- The code and the item stand in a row.
abbrev pub in_row : ℕ → ℕ → Row → Bool
in_row code item row = eqb row.code code && leb row.from item && leb item row.to

-- The code and the item are document 01's.
unfoldable pub Listed : ℕ → ℕ → Type 0
Listed code item = T (any (in_row code item) rows)
