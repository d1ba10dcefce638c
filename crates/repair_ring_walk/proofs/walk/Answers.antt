-- Where the side that follows is the first one the ring ends, and else it has one side more. Assumes nothing.
use Rattle.std.proofs.Common.{arith, ◌<◌, length, sym, ◌∙◌}
use Rattle.repair_ring_walk.proofs.Walking.{walking_back, walking_one}
use Rattle.repair_ring_walk.proofs.walk.Goals as goal

pub returns-then-s-first : goal.returns-then-s-first
returns-then-s-first c =
    let w = c.loop-n.invariant.0 in
    let marked : c.loop-n.s < length c.loop-n.taken = omega (arith, c.loop-n.invariant.1, c.requires.4, w.down.many) in
    walking_back w (omega (arith, w.long)) marked (sym c.follower-s.ensures.0 ∙ c.if-s-first.true)

pub loop-n-preserved : goal.loop-n-preserved
loop-n-preserved c =
    let w = c.loop-n.invariant.0 in
    let e = c.follower-s.ensures in
    let marked : c.loop-n.s < length c.loop-n.taken = omega (arith, c.loop-n.invariant.1, c.requires.4, w.down.many) in
    (rw e.0 (walking_one w (omega (arith, w.long)) marked (λ z. c.if-s-first.false (e.0 ∙ z))), e.1)
