use Rattle.std.proofs.Common.{◌-◌, length}
use Rattle.sheet.specs.Rings.{Reaches}
use Rattle.sheet.proofs.rings.Given as goal

-- The steps from the beginning have reached where the loop stands, in the polygon or behind it.
abbrev pub invariant-loop-reached : goal.invariant-loop-reached
invariant-loop-reached l = Reaches l.s l.fn.from l.fn.had l.fn.numbers l.reached l.numbers

-- What is left of the bytes.
abbrev pub decreases-loop-reached : goal.decreases-loop-reached
decreases-loop-reached l = length l.s - l.reached.place.at
