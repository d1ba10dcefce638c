-- The ring that stands next is turned as a first one at the start, and as a later one behind it.
use Rattle.std.proofs.Common.{◌≡◌, ◌+◌, ℕ, false, nat_eq, arith}
use Rattle.std.proofs.lemmas.Bool.Decides.{nat_tests}
use Rattle.plane_rings.specs.Closed.{RingLimits}
use Rattle.plane_rings.specs.Turning.{turn_polygon}
use Rattle.plane_rings.proofs.Turning.{polygon_length}
use Rattle.sheet_form.specs.Numbers.{ring_numbers}
use Rattle.sheet_older.proofs.Places.{place_count}
use Rattle.sheet_older.proofs.Ways.{onward_one, onward_none}
use Rattle.sheet_older.proofs.Walk.{going_begin, going_as, going_place, going_more, going_done}
use Rattle.sheet_older.proofs.part.Goals as goal

-- No later one is the first.
later : (i : ℕ) → nat_eq (i + 1) 0 ≡ false
later i = grind (arith, nat_tests)

pub overflow_sub-i-end : goal.overflow_sub-i-end
overflow_sub-i-end c = let h = place_count ring_numbers c.requires in omega arith

pub loop-i-init : goal.loop-i-init
loop-i-init c = going_as (going_begin ring_numbers turn_polygon RingLimits c.args.numbers.now c.args.at c.requires.held) (omega arith)

pub ring-here-requires : goal.ring-here-requires
ring-here-requires c = going_place c.loop-i.invariant c.requires (omega arith)

pub loop-i-preserved : goal.loop-i-preserved
loop-i-preserved c =
    rw (later c.loop-i.i) (going_as (going_more c.loop-i.invariant (onward_one (nat_eq c.loop-i.i 0)) (omega arith) c.ring-here.ensures) (omega arith))

pub returns : goal.returns
returns c = going_done c.loop-i.invariant (onward_none (nat_eq c.loop-i.i 0)) polygon_length (omega arith)
