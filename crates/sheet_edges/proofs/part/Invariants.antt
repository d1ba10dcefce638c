-- The edges of the rings before the one that stands here are laid down, and the rings from it on are left.
use Rattle.std.proofs.Common.{◌-◌}
use mathlib.Core.List.{flat_map}
use Rattle.plane.specs.Members.{edges}
use Rattle.sheet_form.specs.Numbers.{ring_numbers}
use Rattle.sheet_edges.proofs.Walk.{Going}
use Rattle.sheet_edges.proofs.part.Given as goal

abbrev pub invariant-loop : goal.invariant-loop
invariant-loop l = Going ring_numbers (flat_map edges) l.numbers l.at l.fill l.fn.from l.fn.to l.from l.to l.laid.at l.laid.fill (l.end - l.counter)
