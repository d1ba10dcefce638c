-- No ring is laid down at first; the next side is of one laid down, or begins one. Assumes nothing.
use Rattle.std.proofs.Common.{arith, ◌∙◌, Bool, false, replicate}
use lib.ListN.{length-replicate}
use Rattle.repair_ring_walk.proofs.Ringing.{ringing_none, ringing_past, ringing_one, blank}
use Rattle.repair_ring_walk.proofs.rings.Goals as goal
use Rattle.repair_ring_walk.proofs.rings.Goals.{then-not-taken-k, else-not-taken-k}

pub loop-k-init : goal.loop-k-init
loop-k-init c = (ringing_none _ _ _ _ (replicate 3072 false) (blank 3072), length-replicate {A = Bool} 3072 false)

pub loop-k-preserved : goal.loop-k-preserved
loop-k-preserved c =
    let g = c.loop-k.invariant in
    elim c.if-not-taken-k.branch [
      | then-not-taken-k w ↦
          let m = w.walk-n.ensures in
          let a = ringing_one g.0 (omega arith) w.if-not-taken-k.true (omega (arith, g.0.fewer, c.requires.4)) m in
          rw (w.order-is, w.ends-is, w.taken-is, w.n-is, w.r-is) (a, m.many ∙ g.1)
      | else-not-taken-k w ↦ rw (w.order-is, w.ends-is, w.taken-is, w.n-is, w.r-is) (ringing_past g.0 (omega arith) w.if-not-taken-k.false, g.1)
    ]
