-- The double area of the ring that stands next is added to those before it, and the sum fits.
use Rattle.std.proofs.Common.{arith}
use Rattle.plane.specs.Members.{edges}
use Rattle.plane_rings.specs.Closed.{RingLimits}
use Rattle.sheet_form.specs.Numbers.{ring_numbers}
use Rattle.sheet_areas.proofs.Walk.{going_begin, going_as, going_place, going_added, going_done}
use Rattle.sheet_areas.proofs.part.Goals as goal

pub loop-init : goal.loop-init
loop-init c = going_as (going_begin ring_numbers edges RingLimits c.args.numbers.now c.args.at) (omega arith)

pub ring-one-requires : goal.ring-one-requires
ring-one-requires c = going_place c.loop.invariant c.requires (omega arith)

pub overflow_add-sum-in-loop : goal.overflow_add-sum-in-loop
overflow_add-sum-in-loop c = (going_added c.requires c.loop.invariant (omega arith) c.ring-one.ensures).0

pub loop-preserved : goal.loop-preserved
loop-preserved c = going_as (going_added c.requires c.loop.invariant (omega arith) c.ring-one.ensures).1 (omega arith)

pub returns : goal.returns
returns c = going_done c.loop.invariant (omega arith)
