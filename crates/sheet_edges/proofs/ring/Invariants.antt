-- The edges up to the point that comes are laid down, and the points from it on are left.
use Rattle.std.proofs.Common.{◌+◌, ◌*◌, ◌-◌}
use Rattle.plane.specs.Members.{edges}
use Rattle.sheet_form.specs.Numbers.{point_numbers}
use Rattle.sheet_edges.proofs.Walk.{Going}
use Rattle.sheet_edges.proofs.ring.Given as goal

abbrev pub invariant-loop-k : goal.invariant-loop-k
invariant-loop-k l = Going point_numbers edges l.numbers l.at l.fill l.fn.from l.fn.to l.from l.to (l.at + 1 + 2 * l.k) (l.fill + l.k) (l.points - l.k)
