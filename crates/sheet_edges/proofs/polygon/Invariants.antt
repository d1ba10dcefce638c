-- The edges of the parts before the one that stands here are laid down, and the parts from it on are left.
use Rattle.std.proofs.Common.{◌-◌}
use mathlib.Core.List.{flat_map}
use Rattle.plane.specs.Members.{edges}
use Rattle.sheet_form.specs.Numbers.{part_numbers}
use Rattle.sheet_edges.proofs.Walk.{Going}
use Rattle.sheet_edges.proofs.polygon.Given as goal

abbrev pub invariant-loop : goal.invariant-loop
invariant-loop l = Going part_numbers (flat_map (flat_map edges)) l.numbers l.at 0 l.fn.from l.fn.to l.from l.to l.laid.at l.laid.fill (l.end - l.counter)
