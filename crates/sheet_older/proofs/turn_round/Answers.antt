-- While two points are left, the first and the last of them stand there; the library's exchange is that of the numbers at both places.
use Rattle.std.proofs.Common.{arith}
use Rattle.sheet_form.specs.Numbers.{point_numbers}
use Rattle.sheet_older.proofs.Places.{place_count}
use Rattle.sheet_older.proofs.Round.{turning_begin, turning_room, turning_exchanged, turning_as, turning_done}
use Rattle.sheet_older.proofs.turn_round.Goals as goal

pub overflow_sub-points : goal.overflow_sub-points
overflow_sub-points c = let h = place_count point_numbers c.requires in omega arith

pub overflow_add-next : goal.overflow_add-next
overflow_add-next c = let h = place_count point_numbers c.requires in omega arith

pub overflow_add-next-2 : goal.overflow_add-next-2
overflow_add-next-2 c = let h = place_count point_numbers c.requires in omega (arith, c.requires.fits.high)

pub loop-k-init : goal.loop-k-init
loop-k-init c = turning_as (turning_begin c.args.numbers.now c.args.at c.requires.held) (omega arith) (omega arith)

pub swap-requires-clause-a_in_bounds : goal.swap-requires-clause-a_in_bounds
swap-requires-clause-a_in_bounds c = let t = turning_room c.loop-k.invariant c.requires (omega arith) in omega arith

pub swap-requires-clause-b_in_bounds : goal.swap-requires-clause-b_in_bounds
swap-requires-clause-b_in_bounds c = let t = turning_room c.loop-k.invariant c.requires (omega arith) in omega arith

pub swap-requires-in-loop-k-clause-a_in_bounds : goal.swap-requires-in-loop-k-clause-a_in_bounds
swap-requires-in-loop-k-clause-a_in_bounds c = let t = turning_room c.loop-k.invariant c.requires (omega arith) in omega arith

pub swap-requires-in-loop-k-clause-b_in_bounds : goal.swap-requires-in-loop-k-clause-b_in_bounds
swap-requires-in-loop-k-clause-b_in_bounds c = let t = turning_room c.loop-k.invariant c.requires (omega arith) in omega arith

pub loop-k-preserved : goal.loop-k-preserved
loop-k-preserved c =
    let t = turning_room c.loop-k.invariant c.requires (omega arith) in
    turning_as (turning_exchanged c.loop-k.invariant (omega arith) t.0 t.1 c.swap.ensures.after c.swap-in-loop-k.ensures.after) (omega arith) (omega arith)

pub returns : goal.returns
returns c = let h = place_count point_numbers c.requires in turning_done c.loop-k.invariant (omega arith)
