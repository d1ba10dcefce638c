-- The polygons before the one that stands here are turned, and the polygons from it on are left.
use Rattle.std.proofs.Common.{◌-◌}
use Rattle.whole.specs.Sums.{All}
use Rattle.plane_rings.specs.Closed.{RingLimits}
use mathlib.Core.List.{map}
use Rattle.plane_rings.specs.Turning.{turn_member}
use Rattle.sheet_form.specs.Numbers.{member_numbers}
use Rattle.sheet_older.proofs.Walk.{Going}
use Rattle.sheet_older.proofs.Sheets.{polygons_at}
use Rattle.sheet_older.proofs.turn.Given as goal

abbrev pub invariant-loop : goal.invariant-loop
invariant-loop l = Going member_numbers (map turn_member) (map turn_member) (All (All RingLimits)) l.fn.numbers (polygons_at l.fn.numbers) l.numbers l.here (l.end - l.counter)
