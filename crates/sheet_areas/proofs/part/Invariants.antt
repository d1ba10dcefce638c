-- The rings before the one that stands here are summed up, and the rings from it on are left.
use Rattle.std.proofs.Common.{◌-◌}
use Rattle.plane.specs.Members.{edges}
use Rattle.plane_rings.specs.Closed.{RingLimits}
use Rattle.sheet_form.specs.Numbers.{ring_numbers}
use Rattle.sheet_areas.proofs.Walk.{Going}
use Rattle.sheet_areas.proofs.part.Given as goal

abbrev pub invariant-loop : goal.invariant-loop
invariant-loop l = Going ring_numbers edges RingLimits l.numbers l.at l.sum.next (l.end - l.counter) l.sum.area
