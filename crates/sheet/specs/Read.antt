-- What reading a byte list answers: a sheet, or a refusal with its code and item.
use Rattle.std.specs.Prelude.{cond, List, map, ℕ, eqb}
use Rattle.std.proofs.Math.Option.{Option, none, some}
use Rattle.plane.specs.Corners.{millimetres}
use Rattle.lent.specs.Stages.{Answer, value, refused}
use Rattle.sheet_form.specs.Numbers.{Sheet}
use Rattle.sheet.specs.Reading.{Reading, reading_of}
use Rattle.sheet_form.specs.Form.{sheet_in}

-- The sheet that numbers make up, or a refusal with code 1 and item 0 where they make up none.
abbrev pub made : Option Sheet → Answer Sheet
made none = refused 1 0
made (some n) = value n

-- What reading bytes as a sheet of at most so many members answers: with code 0 the sheet that the numbers make up; another code is the refusal.
unfoldable pub read_sheet : ℕ → List ℕ → Answer Sheet
read_sheet limit s =
    let r : Reading = reading_of limit s in
    cond (eqb r.code 0) (made (sheet_in (map millimetres r.numbers))) (refused r.code r.item)
