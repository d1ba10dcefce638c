-- The ring that stands next is laid down behind those before it.
use Rattle.std.proofs.Common.{arith, refl}
use mathlib.Core.List.{flat_map}
use Rattle.plane.specs.Members.{edges}
use Rattle.sheet_form.specs.Numbers.{ring_numbers}
use Rattle.sheet_edges.proofs.Walk.{going_begin, going_room, going_more, going_as, going_done}
use Rattle.sheet_edges.proofs.part.Goals as goal

pub loop-init : goal.loop-init
loop-init c = going_as (going_begin ring_numbers (flat_map edges) c.args.numbers.now c.args.at c.args.fill c.args.from.now c.args.to.now) refl refl (omega arith)

pub ring-laid-requires : goal.ring-laid-requires
ring-laid-requires c = going_room c.requires c.loop.invariant (omega arith)

pub loop-preserved : goal.loop-preserved
loop-preserved c = going_as (going_more c.loop.invariant (omega arith) c.ring-laid.ensures) refl refl (omega arith)

pub returns : goal.returns
returns c = going_done edges c.loop.invariant (omega arith)
