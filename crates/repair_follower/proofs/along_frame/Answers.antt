-- What is across the side reached is a side, and the next one clockwise is of its triangle. Assumes nothing.
use Rattle.std.proofs.Common.{arith, ◌-◌, get_or}
use Rattle.repair_follower.proofs.Along.{along_past, inner, across_below, end_below}
use Rattle.repair_follower.proofs.along_frame.Goals as goal

pub next_side-s-requires : goal.next_side-s-requires
next_side-s-requires c =
    let p = c.requires.0 in
    omega (arith, across_below c.args.opposite.now c.loop.s p.1 c.if-opposite-s-eq0.false, p.1.sides, p.2)

pub loop-preserved : goal.loop-preserved
loop-preserved c =
    let o = c.args.opposite.now in
    let s = c.loop.s in
    let p = c.requires.0.1 in
    rw c.next_side-s.ensures
    (along_past c.loop.invariant (omega arith) (inner o s c.if-opposite-s-eq0.false) (end_below o (get_or o s 0 - 1) p (across_below o s p c.if-opposite-s-eq0.false)))
