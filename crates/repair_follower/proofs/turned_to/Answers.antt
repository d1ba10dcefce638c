-- Where a triangle is across, the reverse is the first side. Assumes nothing.
use Rattle.repair_follower.proofs.Along.{turned_inner, across_below}
use Rattle.repair_follower.proofs.turned_to.Goals as goal

pub returns : goal.returns
returns c =
    let o = c.args.opposite.now in
    let f = c.if-opposite-k-eq0.false in
    (turned_inner o c.args.k f, across_below o c.args.k c.requires.0.1 f)
