-- The polygons stand behind the table, and with them turned the sheet is turned.
use Rattle.std.proofs.Common.{map, length, get_or, ◌≡◌, ◌<◌, ◌≤◌, ◌+◌, List, ℕ, arith, refl}
use Rattle.std.proofs.lemmas.List.{length-map}
use Rattle.whole.specs.Sums.{All}
use Rattle.plane_rings.specs.Closed.{RingLimits}
use Rattle.plane_rings.specs.Turning.{turn_member}
use Rattle.sheet_form.specs.Numbers.{Sheet, member_numbers}
use Rattle.sheet.specs.Held.{SheetHeld}
use Rattle.sheet_turned.specs.Rings.{RingsFit}
use Rattle.sheet_older.proofs.Places.{place_count}
use Rattle.sheet_older.proofs.Walk.{going_begin, going_as, going_place, going_more, going_done}
use Rattle.sheet_older.proofs.Sheets.{polygons_at, sheet_count, sheet_place, sheet_turned}
use Rattle.sheet_older.proofs.turn.Goals as goal

-- The count of the table's pieces, and that of the polygons behind the table.
count : {numbers : List ℕ} (w : (limit : ℕ) × (n : Sheet) × SheetHeld limit n numbers × RingsFit n)
    → (0 < length numbers) × (get_or numbers 0 0 ≡ length w.1.table + 10_000_000) × (length w.1.table ≤ 1024)
    × (polygons_at numbers < length numbers) × (10_000_000 ≤ get_or numbers (polygons_at numbers) 0)
count w =
    let t = sheet_count w.2 in
    let p = place_count member_numbers (sheet_place w.2 w.3) in
    (t.0, t.1, w.2.few, p.0, omega arith)

pub bounds-numbers-at : goal.bounds-numbers-at
bounds-numbers-at c = (count c.requires).3

pub overflow_sub-end : goal.overflow_sub-end
overflow_sub-end c = (count c.requires).4

pub loop-init : goal.loop-init
loop-init c = going_as (going_begin member_numbers (map turn_member) (All (All RingLimits)) c.args.numbers.now (polygons_at c.args.numbers.now) c.requires.2.held) (omega arith)

pub polygon-here-requires : goal.polygon-here-requires
polygon-here-requires c = going_place c.loop.invariant (sheet_place c.requires.2 c.requires.3) (omega arith)

pub loop-preserved : goal.loop-preserved
loop-preserved c = going_as (going_more c.loop.invariant (λ m l. refl) (omega arith) c.polygon-here.ensures) (omega arith)

pub returns : goal.returns
returns c =
    let t = going_done c.loop.invariant refl (λ l. length-map l turn_member) (omega arith) in
    (λ limit n h fits. sheet_turned h fits t, c.loop.invariant.long)
