-- How bytes are read by the mode that is asked: as a sheet by itself or as a GeoPackage geometry blob, of the present edition or of the older one, whose rings are
-- turned.
use Rattle.std.specs.Prelude.{Bool, true, cond, Ok, Err, List, ℕ, ◌+◌, eqb, drop}
use Rattle.std.proofs.Math.Option.{Option, none, some}
use Rattle.lent.specs.Stages.{Answer, value, refused, and_then}
use Rattle.lent.specs.Refusals.{refused_as}
use Rattle.sheet_form.specs.Numbers.{Sheet, members}
use Rattle.sheet.specs.Reading.{Reading, reading_of}
use Rattle.sheet.specs.Read.{read_sheet}
use Rattle.sheet_envelope.specs.Envelope.{agrees}
use Rattle.sheet_framed.specs.Framed.{frame_on}
use Rattle.sheet_blob.specs.declared.Opened.{Opened}
use Rattle.sheet_blob.specs.Opening.{Opening, opening_of}
use Rattle.sheet_turned.specs.Turned.{turned}

-- The edition that a sheet is of, and the form that its bytes have: the sheet by itself, or a blob with the sheet in it.
pub data Edition : Type 0 where
  present : Edition
  older : Edition

pub data Form : Type 0 where
  plain : Form
  blob : Form

pub record Mode : Type 0 where
  pub form : Form
  pub edition : Edition

-- Modes 0 and 1 are sheets by themselves, modes 2 and 3 blobs, of the present edition and of the older one; any other number is refused 57.
abbrev pub mode_of : ℕ → Answer Mode
mode_of mode =
    cond (eqb mode 0) (value (record { form = plain; edition = present }))
    (cond (eqb mode 1) (value (record { form = plain; edition = older }))
    (cond (eqb mode 2) (value (record { form = blob; edition = present }))
    (cond (eqb mode 3) (value (record { form = blob; edition = older }))
    (refused 57 0))))

-- The sheet that was read, in its edition: in the older one with its rings as turned.
abbrev pub edited : Edition → Sheet → Sheet
edited present n = n
edited older n = turned n

-- What stands around the sheet: nothing, or the header of a blob. A refusal of the header has item 0.
abbrev pub headed : Opening → Answer (Option Opened)
headed (Ok r) = value (some r)
headed (Err f) = refused_as (record { reason = f.refusal.reason; item = 0 })

abbrev pub around : Form → List ℕ → Answer (Option Opened)
around plain s = value none
around blob s = headed (opening_of s)

-- The bytes of the sheet: those behind the header.
abbrev pub behind : Option Opened → List ℕ → List ℕ
behind none s = s
behind (some r) s = drop r.at s

-- What stands around the sheet, by the mode that is asked; nothing where the mode is unknown or the header is refused.
abbrev pub found : Answer (Option Opened) → Option Opened
found (value o) = o
found (refused code item) = none

abbrev pub header_by : ℕ → List ℕ → Option Opened
header_by mode s = found (and_then (mode_of mode) (λ m. around m.form s))

-- What reading bytes in a mode as a sheet of at most so many members answers. The mode is looked at before everything else.
unfoldable pub read_by : ℕ → ℕ → List ℕ → Answer Sheet
read_by limit mode s =
    and_then (mode_of mode) (λ m.
    and_then (around m.form s) (λ o.
    and_then (read_sheet limit (behind o s)) (λ n.
    value (edited m.edition n))))

-- The envelope, where there is one, equals the frame of the sheet's table.
abbrev pub framed : Option Opened → Sheet → Bool
framed none n = true
framed (some r) n = agrees r.envelope (frame_on n)

-- ---- the byte position that is told
-- Counted from the first byte of the sheet or blob: where reading is refused, that of the field at fault behind what stands before it; else none.
abbrev pub begins : Option Opened → ℕ
begins none = 0
begins (some r) = r.at

abbrev pub fault_at : ℕ → Reading → ℕ
fault_at at r = cond (eqb r.code 0) 0 (at + r.position)

abbrev pub header_position : Opening → ℕ
header_position (Ok r) = 0
header_position (Err f) = f.position

abbrev pub header_fault : Form → List ℕ → ℕ
header_fault plain s = 0
header_fault blob s = header_position (opening_of s)

abbrev pub placed : Form → List ℕ → Answer (Option Opened) → ℕ
placed form s (value o) = fault_at (begins o) (reading_of members (behind o s))
placed form s (refused code item) = header_fault form s

abbrev pub position_in : Answer Mode → List ℕ → ℕ
position_in (refused code item) s = 0
position_in (value m) s = placed m.form s (around m.form s)
