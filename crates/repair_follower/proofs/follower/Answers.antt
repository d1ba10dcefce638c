-- A side of the polygon is the one that follows; from another the next one anticlockwise is gone on with. Assumes nothing.
use Rattle.std.proofs.Common.{arith, ◌∙◌, ap}
use Rattle.std.proofs.lemmas.Bool.{eq-eqb}
use borrow.Author.Tests.{ne_eqb}
use Rattle.repair_follower.specs.Follower.{turned_to}
use Rattle.repair_follower.proofs.Along.{along_found, along_past}
use Rattle.repair_follower.proofs.follower.Goals as goal

pub returns-then-owners-s : goal.returns-then-owners-s
returns-then-owners-s c = (along_found c.loop.invariant (eq-eqb _ _ c.if-owners-s.true), c.loop.invariant.side)

pub loop-preserved : goal.loop-preserved
loop-preserved c =
    let t = c.turned_to-s-in-loop.ensures in
    let e = t.0 ∙ ap (turned_to c.args.opposite.now) c.side_before.ensures in
    rw e (along_past c.loop.invariant (omega arith) (ne_eqb _ _ c.if-owners-s.false) (rw e at t.1))
