-- From bytes to a judged sheet, and on to its repair: reading, the table rules, the envelope, an index that is lent, the judging of the polygons in number order.
use Rattle.std.specs.Prelude.{Bool, List, ℕ}
use Rattle.std.proofs.Math.Option.{Option, none}
use Rattle.plane.specs.Boundaries.{sides_of}
use Rattle.plane_lengths.specs.Lengths.{lengths_of}
use Rattle.lent.specs.Stages.{Answer, value, and_then, needing}
use Rattle.table.specs.Table.{frame_edges, check_table}
use Rattle.table.specs.Opposites.{opposites}
use Rattle.table_neighbours.specs.Neighbours.{indexed}
use Rattle.owners.specs.Owners.{judge_polygons}
use Rattle.repair.specs.Ways.{repaired_by}
use Rattle.sheet_form.specs.Numbers.{Sheet, members}
use Rattle.sheet_modes.specs.Modes.{read_by, header_by, framed}

-- A judged sheet: the sheet in numbers, with the owners of each triangle of its table before repair.
pub record Judged : Type 0 where
  pub sheet : Sheet
  pub owners : List (List ℕ)

-- An envelope that isn't the frame is refused 52 with item 0.
abbrev pub matched : Bool → Answer (Unit {0})
matched whole = needing whole 52 0

-- The table rules against the frame, and then the envelope. The first argument says whether it is the frame, or there is none.
abbrev pub check_framed : Bool → Sheet → Answer (Unit {0})
check_framed whole n =
    and_then (check_table (frame_edges n.table) n.table) (λ _.
    matched whole)

-- And then the index that is lent, if there is one, and the polygons.
unfoldable pub judge_indexed : Option (List ℕ) → Bool → Sheet → Answer Judged
judge_indexed index whole n =
    and_then (check_framed whole n) (λ _.
    and_then (indexed index n.table) (λ _.
    and_then (judge_polygons n.table n.polygons) (λ owners.
    value (record { sheet = n; owners = owners }))))

-- What bytes come to in a mode, with an index or none: read as a sheet, which is judged with the envelope that stands around it.
unfoldable pub judged_with : Option (List ℕ) → ℕ → List ℕ → Answer Judged
judged_with index mode s = and_then (read_by members mode s) (λ n. judge_indexed index (framed (header_by mode s) n) n)

abbrev pub judged_sheet : ℕ → List ℕ → Answer Judged
judged_sheet = judged_with none

-- The repair of a judged sheet in a way.
abbrev pub repair_of : ℕ → Judged → Answer (List ℕ)
repair_of way j = repaired_by way (lengths_of j.sheet.table) (opposites (sides_of j.sheet.table)) j.owners
