-- The part that stands next is laid down behind those before it.
use Rattle.std.proofs.Common.{arith, refl}
use mathlib.Core.List.{flat_map}
use Rattle.plane.specs.Members.{edges}
use Rattle.sheet_form.specs.Numbers.{part_numbers}
use Rattle.sheet_edges.proofs.Walk.{going_begin, going_room, going_more, going_as, going_done, lays_down}
use Rattle.sheet_edges.proofs.polygon.Goals as goal

pub loop-init : goal.loop-init
loop-init c = going_as (going_begin part_numbers (flat_map (flat_map edges)) c.args.numbers.now c.args.at 0 c.args.from.now c.args.to.now) refl refl (omega arith)

pub part-laid-requires : goal.part-laid-requires
part-laid-requires c = going_room c.requires c.loop.invariant (omega arith)

pub loop-preserved : goal.loop-preserved
loop-preserved c = going_as (going_more c.loop.invariant (omega arith) c.part-laid.ensures) refl refl (omega arith)

pub returns : goal.returns
returns c = lays_down c.requires (going_done (flat_map edges) c.loop.invariant (omega arith))
