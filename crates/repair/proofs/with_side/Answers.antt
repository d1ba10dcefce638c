-- What is across a side is a side of the table. Assumes nothing.
use Rattle.std.proofs.Common.{arith, ◌-◌, get_or}
use Rattle.repair.proofs.with_side.Goals as goal

pub bounds-numbers-o : goal.bounds-numbers-o
bounds-numbers-o c =
    let a = c.args in
    let o = get_or a.opposite.now a.k 0 in
    omega (arith, c.requires.0.there a.k (o - 1) (omega (arith, c.if-o-eq0.false)), c.requires.0.sides)
