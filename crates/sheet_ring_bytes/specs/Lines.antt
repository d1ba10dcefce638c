-- The closed lines of a polygon's boundary after repair, as bytes: those that the writer would write of their points.
use Rattle.std.specs.Prelude.{List, [], map, ℕ, length}
use Rattle.plane.specs.Points.{Edge}
use Rattle.plane.specs.Members.{Ring}
use Rattle.lent.specs.Answered.{Outcome, bytes}
use Rattle.wkb_lines.specs.Lines.{encode_lines}
use Rattle.sheet_written.specs.Normal.{pair_of}
use Rattle.repair_rings.specs.Rings.{lines}

-- Closed lines as a MultiLineString; the item is the number of bytes.
abbrev pub line_bytes : List Ring → List ℕ
line_bytes ls = encode_lines (map (map pair_of) ls)

abbrev pub lines_outcome : List Ring → Outcome
lines_outcome ls = bytes (length (line_bytes ls)) (line_bytes ls)

-- The boundary sides joined into closed lines.
abbrev pub lines_after : List Edge → Outcome
lines_after sides = lines_outcome (lines sides)

-- The room that closed lines take: as the item, how many bytes they have. Nothing is written.
abbrev pub room_outcome : List Ring → Outcome
room_outcome ls = bytes (length (line_bytes ls)) []

abbrev pub room_after : List Edge → Outcome
room_after sides = room_outcome (lines sides)
