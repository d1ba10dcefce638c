-- The places that reading comes to: each field before them was read, and nothing was at fault in it.
use Rattle.std.specs.Prelude.{◌≡◌, List, ℕ}
use Rattle.wkb.specs.declared.Cursor.{Cursor}
use Rattle.wkb.specs.Steps.{start}
use Rattle.sheet.specs.Reading.{Taken, on, nothing, turn}

-- Reading the bytes as a sheet of at most so many members comes to the place c, with b taken so far: c is the place before the first byte, or a step from a place
-- that it comes to was answered with what may stand there and leads on to c.
pub data Comes (limit : ℕ) (s : List ℕ) : Cursor → Taken → Type 0 where
  begins : Comes limit s (start limit) nothing
  goes : {c d : Cursor} {b e : Taken} → Comes limit s c b → turn s c b ≡ on d e → Comes limit s d e
