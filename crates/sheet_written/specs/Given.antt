-- What the writer is given: bytes that make up a whole sheet within the limits, or not; and what writing comes to.
use Rattle.std.specs.Prelude.{cond, List, ℕ, ◌%◌, eqb, length}
use Rattle.std.proofs.Math.Option.{Option, none, some}
use Rattle.sheet_form.specs.Numbers.{Sheet}
use Rattle.lent.specs.Stages.{refused}
use Rattle.lent.specs.Answered.{Outcome, bytes}
use Rattle.sheet_form.specs.Form.{sheet_in, numbers_in}
use Rattle.sheet_written.specs.Fits.{sheet_fits}
use Rattle.sheet_written.specs.Normal.{written}

-- A sheet of at most so many members, within the limits, or nothing.
abbrev pub limited : ℕ → Option Sheet → Option Sheet
limited limit none = none
limited limit (some n) = cond (sheet_fits limit n) (some n) none

-- The sheet that bytes give: their length is a multiple of 4, and their numbers make up a sheet within the limits.
unfoldable pub sheet_given : ℕ → List ℕ → Option Sheet
sheet_given limit s = cond (eqb (length s % 4) 0) (limited limit (sheet_in (numbers_in s))) none

-- The normal bytes of the sheet that is given, their number being the item; else 42.
abbrev pub write_outcome : Option Sheet → Outcome
write_outcome none = refused 42 0
write_outcome (some n) = bytes (length (written n)) (written n)
