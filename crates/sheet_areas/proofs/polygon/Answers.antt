-- The double area of the part that stands next is added to those before it, and the sum fits.
use Rattle.std.proofs.Common.{arith}
use mathlib.Core.List.{flat_map}
use Rattle.whole.specs.Sums.{All}
use Rattle.plane.specs.Members.{edges}
use Rattle.plane_rings.specs.Closed.{RingLimits}
use Rattle.sheet_form.specs.Numbers.{part_numbers}
use Rattle.sheet_areas.proofs.Walk.{going_begin, going_as, going_place, going_added, going_done}
use Rattle.sheet_areas.proofs.polygon.Goals as goal

pub loop-init : goal.loop-init
loop-init c = going_as (going_begin part_numbers (flat_map edges) (All RingLimits) c.args.numbers.now c.args.at) (omega arith)

pub part-one-requires : goal.part-one-requires
part-one-requires c = going_place c.loop.invariant c.requires (omega arith)

pub overflow_add-sum-in-loop : goal.overflow_add-sum-in-loop
overflow_add-sum-in-loop c = (going_added c.requires c.loop.invariant (omega arith) c.part-one.ensures).0

pub loop-preserved : goal.loop-preserved
loop-preserved c = going_as (going_added c.requires c.loop.invariant (omega arith) c.part-one.ensures).1 (omega arith)

pub returns : goal.returns
returns c = going_done c.loop.invariant (omega arith)
