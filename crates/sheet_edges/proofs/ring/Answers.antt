-- While two points are left, both stand there, and there is room for the edge between them; once one is left, all edges are laid down.
use Rattle.std.proofs.Common.{arith}
use Rattle.sheet_edges.proofs.Walk.{going_as, ring_room, ring_more, ring_done}
use Rattle.sheet_edges.proofs.ring.Goals as goal

pub point-requires : goal.point-requires
point-requires c = let h = ring_room c.requires c.loop-k.invariant (omega arith) in omega (arith, h.0)

pub bounds-from-fill : goal.bounds-from-fill
bounds-from-fill c = (ring_room c.requires c.loop-k.invariant (omega arith)).1

pub point-requires-in-loop-k : goal.point-requires-in-loop-k
point-requires-in-loop-k c = let h = ring_room c.requires c.loop-k.invariant (omega arith) in omega (arith, h.0)

pub bounds-to-fill : goal.bounds-to-fill
bounds-to-fill c = (ring_room c.requires c.loop-k.invariant (omega arith)).2

pub loop-k-preserved : goal.loop-k-preserved
loop-k-preserved c =
    rw (c.point.ensures, c.point-in-loop-k.ensures) (going_as (ring_more c.requires.held c.loop-k.invariant (omega arith)) (omega arith) (omega arith) (omega arith))

pub returns : goal.returns
returns c = ring_done c.loop-k.invariant (omega arith) (omega arith) (omega arith)
