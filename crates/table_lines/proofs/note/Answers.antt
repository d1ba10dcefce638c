-- The place found is the corner's.
use Rattle.std.proofs.Common.{arith}
use Rattle.whole_order.proofs.Ascending.{place_found}
use Rattle.table_lines.proofs.note.Goals as goal

pub bounds-marks-at : goal.bounds-marks-at
bounds-marks-at c = omega (arith, place_found c.args.corners.now c.args.u c.requires.0 c.requires.1)

pub bounds-marks-at-2 : goal.bounds-marks-at-2
bounds-marks-at-2 c = omega (arith, place_found c.args.corners.now c.args.u c.requires.0 c.requires.1)
