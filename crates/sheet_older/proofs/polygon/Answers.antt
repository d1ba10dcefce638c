-- The part that stands next is turned behind those before it.
use Rattle.std.proofs.Common.{arith, refl}
use Rattle.std.proofs.lemmas.List.{length-map}
use Rattle.whole.specs.Sums.{All}
use Rattle.plane_rings.specs.Closed.{RingLimits}
use Rattle.plane_rings.specs.Turning.{turn_polygon, turn_member}
use Rattle.sheet_form.specs.Numbers.{part_numbers}
use Rattle.sheet_older.proofs.Places.{place_count}
use Rattle.sheet_older.proofs.Walk.{going_begin, going_as, going_place, going_more, going_done}
use Rattle.sheet_older.proofs.polygon.Goals as goal

pub overflow_sub-end : goal.overflow_sub-end
overflow_sub-end c = let h = place_count part_numbers c.requires in omega arith

pub loop-init : goal.loop-init
loop-init c = going_as (going_begin part_numbers turn_member (All RingLimits) c.args.numbers.now c.args.at c.requires.held) (omega arith)

pub part-here-requires : goal.part-here-requires
part-here-requires c = going_place c.loop.invariant c.requires (omega arith)

pub loop-preserved : goal.loop-preserved
loop-preserved c = going_as (going_more c.loop.invariant (λ p m. refl) (omega arith) c.part-here.ensures) (omega arith)

pub returns : goal.returns
returns c = going_done c.loop.invariant refl (λ m. length-map m turn_polygon) (omega arith)
