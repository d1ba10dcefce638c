-- The parts before the one that stands here are turned, and the parts from it on are left.
use Rattle.std.proofs.Common.{◌-◌}
use Rattle.whole.specs.Sums.{All}
use Rattle.plane_rings.specs.Closed.{RingLimits}
use Rattle.plane_rings.specs.Turning.{turn_member}
use Rattle.sheet_form.specs.Numbers.{part_numbers}
use Rattle.sheet_older.proofs.Walk.{Going}
use Rattle.sheet_older.proofs.polygon.Given as goal

abbrev pub invariant-loop : goal.invariant-loop
invariant-loop l = Going part_numbers turn_member turn_member (All RingLimits) l.fn.numbers l.at l.numbers l.here (l.end - l.counter)
