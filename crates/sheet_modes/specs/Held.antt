-- How the code's answer shows what reading in a mode answers: the sheet at the front of the lent numbers and what stands around it, or the refusal.
use Rattle.std.specs.Prelude.{◌≡◌, false, Option as Maybe, None, Some, Result, Ok, Err, List, ℕ, ◌*◌, ◌/◌, ◌≤◌, min, eqb, length, take}
use Rattle.std.proofs.Math.Option.{Option, none, some}
use Rattle.lent.specs.Stages.{value}
use Rattle.lent.specs.Refusals.{refused_as}
use Rattle.lent.specs.declared.Fault.{Fault}
use Rattle.sheet_form.specs.Numbers.{Sheet, members}
use Rattle.sheet.specs.Held.{SheetHeld}
use Rattle.sheet.specs.Reading.{reading_of}
use Rattle.sheet.specs.Read.{read_sheet}
use Rattle.sheet_turned.specs.Rings.{RingsFit}
use Rattle.sheet_blob.specs.declared.Opened.{Opened}
use Rattle.sheet_modes.specs.Modes.{Edition, edited, mode_of, header_by, read_by, position_in}

-- What stands around a sheet: the header of a blob, or nothing.
abbrev pub around_of : Maybe Opened → Option Opened
around_of None = none
around_of (Some h) = some h

-- Lent numbers have room for any sheet of these bytes: for those of the largest sheet, or for one to four bytes.
abbrev pub Room : List ℕ → List ℕ → Type 0
Room s numbers = min 16450 (length s / 4) ≤ length numbers

-- A sheet by itself, in an edition: it stands at the front of the numbers, its rings closed and within the limits, with at least four bytes for each number; or the
-- refusal, with a position within the bytes.
abbrev pub EndsAs : Edition → List ℕ → Result ℕ Fault → List ℕ → Type 0
EndsAs edition s (Ok k) numbers = (m : Sheet) × (read_sheet members s ≡ value m) × SheetHeld members (edited edition m) (take k numbers) × (k ≤ length numbers) × RingsFit (edited edition m) × (4 * k ≤ length s)
EndsAs edition s (Err f) numbers =
    (read_sheet members s ≡ refused_as f.refusal) × (f.position ≡ (reading_of members s).position) × (eqb (reading_of members s).code 0 ≡ false) × (f.position ≤ length s)

-- In a mode: so many numbers, and what stands around the sheet.
abbrev pub GotAs : ℕ → List ℕ → Result (ℕ × Maybe Opened) Fault → List ℕ → Type 0
GotAs mode s (Ok (k, around)) numbers =
    (n : Sheet) × (read_by members mode s ≡ value n) × (header_by mode s ≡ around_of around) × SheetHeld members n (take k numbers) × (k ≤ length numbers) × RingsFit n × (4 * k ≤ length s)
GotAs mode s (Err f) numbers = (read_by members mode s ≡ refused_as f.refusal) × (f.position ≡ position_in (mode_of mode) s)
