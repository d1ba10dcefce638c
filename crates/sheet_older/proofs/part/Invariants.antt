-- The rings before the one that stands here are turned, and the rings from it on are left: with a first ring among them, or all later ones.
use Rattle.std.proofs.Common.{◌-◌, nat_eq}
use Rattle.plane_rings.specs.Closed.{RingLimits}
use Rattle.plane_rings.specs.Turning.{turn_polygon}
use Rattle.sheet_form.specs.Numbers.{ring_numbers}
use Rattle.sheet_older.proofs.Ways.{onward}
use Rattle.sheet_older.proofs.Walk.{Going}
use Rattle.sheet_older.proofs.part.Given as goal

abbrev pub invariant-loop-i : goal.invariant-loop-i
invariant-loop-i l = Going ring_numbers turn_polygon (onward (nat_eq l.i 0)) RingLimits l.fn.numbers l.at l.numbers l.here (l.i-end - l.i)
