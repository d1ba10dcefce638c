-- A side that bounds the polygon is laid down, and another is passed over. Assumes nothing.
use Rattle.std.proofs.Common.{arith, sym, ◌∙◌}
use Rattle.repair_sides.proofs.Laying.{laying_past, laying_one}
use Rattle.repair_sides.proofs.boundary.Goals as goal
use Rattle.repair_sides.proofs.boundary.Goals.{then-is_bound, else-is_bound}

pub loop-k-preserved : goal.loop-k-preserved
loop-k-preserved c =
    let l = c.loop-k.invariant in
    let e = c.is_bound.ensures in
    elim c.if-is_bound.branch [
      | then-is_bound w ↦ rw (w.sides-is, w.n-is) (laying_one l (omega arith) (omega (arith, c.requires.1)) (sym e ∙ w.if-is_bound.true))
      | else-is_bound w ↦ rw (w.sides-is, w.n-is) (laying_past l (omega arith) (sym e ∙ w.if-is_bound.false))
    ]
