-- The normal bytes of a blob: little-endian, envelope kind 1 with the frame of the sheet's table, the number kept, and the normal bytes of the sheet.
use Rattle.std.specs.Prelude.{true, Some, List, ℕ}
use Rattle.std.proofs.Math.Option.{some}
use Rattle.table.specs.Table.{Frame}
use Rattle.sheet_form.specs.Numbers.{Sheet}
use Rattle.sheet_envelope.specs.Envelope.{around}
use Rattle.sheet_framed.specs.Framed.{frame_on}
use Rattle.sheet_written.specs.Normal.{pattern_of, written}
use Rattle.sheet_blob.specs.declared.Opened.{Opened}
use Rattle.sheet_blob.specs.Blob.{Patterns, Header, blob_of}

-- A blob in numbers: the 32 bits of its reference-system number, and its sheet.
pub record Blob : Type 0 where
  pub number : ℕ
  pub sheet : Sheet

-- The patterns of the doubles that equal a frame's bounds.
abbrev pub patterns_of : Frame → Patterns
patterns_of f = record { left = pattern_of f.left; right = pattern_of f.right; low = pattern_of f.low; high = pattern_of f.high }

-- The header that the writer writes: little-endian, with the envelope of a frame.
abbrev pub normal_header : ℕ → Frame → Header
normal_header number f = record { little = true; number = number; envelope = some (patterns_of f) }

-- The bytes that the writer writes.
abbrev pub written_blob : Blob → List ℕ
written_blob b = blob_of (normal_header b.number (frame_on b.sheet)) (written b.sheet)

-- What is read of its header: the number kept, the sheet at 40, the envelope around the frame.
abbrev pub opened_of : Blob → Opened
opened_of b = record { number = b.number; at = 40; envelope = Some (around (frame_on b.sheet)) }
