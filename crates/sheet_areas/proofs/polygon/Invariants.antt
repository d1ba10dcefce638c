-- The parts before the one that stands here are summed up, and the parts from it on are left.
use Rattle.std.proofs.Common.{◌-◌}
use mathlib.Core.List.{flat_map}
use Rattle.whole.specs.Sums.{All}
use Rattle.plane.specs.Members.{edges}
use Rattle.plane_rings.specs.Closed.{RingLimits}
use Rattle.sheet_form.specs.Numbers.{part_numbers}
use Rattle.sheet_areas.proofs.Walk.{Going}
use Rattle.sheet_areas.proofs.polygon.Given as goal

abbrev pub invariant-loop : goal.invariant-loop
invariant-loop l = Going part_numbers (flat_map edges) (All RingLimits) l.numbers l.at l.sum.next (l.end - l.counter) l.sum.area
