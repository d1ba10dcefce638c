-- What the blob writer is given: the number in the first 4 bytes, then the numbers form of a sheet within the limits, or not; and what writing comes to.
use Rattle.std.specs.Prelude.{true, cond, ℕ, leb, length, drop}
use mathlib.Core.List.{List, ◌++◌, flat_map}
use Rattle.std.proofs.Math.Option.{Option, none, some}
use Rattle.lent.specs.Stages.{refused}
use Rattle.lent.specs.Answered.{Outcome, bytes}
use Rattle.lent_little.specs.Ordered.{word_at}
use Rattle.lent_little.specs.Ordered as ordered
use Rattle.lent_little.specs.Bytes.{i32}
use Rattle.sheet_form.specs.Numbers.{Sheet, numbers_of}
use Rattle.sheet_written.specs.Given.{sheet_given}
use Rattle.sheet_blob_written.specs.Normal.{Blob, written_blob}

-- The numbers form of a blob as bytes: its reference-system number, and then the sheet's, each as a little-endian i32.
abbrev pub blob_form : Blob → List ℕ
blob_form b = ordered.bytes 4 b.number ++ flat_map i32 (numbers_of b.sheet)

-- A sheet, where there is one, with a number.
abbrev pub numbered : ℕ → Option Sheet → Option Blob
numbered number none = none
numbered number (some n) = some (record { number = number; sheet = n })

-- The blob that bytes give: 4 of them for the number, any i32, and the others give a sheet of at most so many members, within the limits.
unfoldable pub blob_given : ℕ → List ℕ → Option Blob
blob_given limit s = cond (leb 4 (length s)) (numbered (word_at true s 0) (sheet_given limit (drop 4 s))) none

-- The normal bytes of the blob that is given, their number being the item; else 42.
abbrev pub write_blob : Option Blob → Outcome
write_blob none = refused 42 0
write_blob (some b) = bytes (length (written_blob b)) (written_blob b)
