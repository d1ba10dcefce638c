-- The reverse is found and taken out, or it is not there and the pair is put in.
use Rattle.std.proofs.Common.{arith}
use Rattle.table_loose.proofs.Coming.{put_came, out_came}
use Rattle.table_loose.proofs.come.Goals as goal

pub returns-in-None : goal.returns-in-None
returns-in-None c =
    let a = c.args in
    (omega arith, put_came a.us.now a.vs.now a.n a.u a.v c.if-u-v.false c.requires.0 c.requires.1 c.in-None.ensures)

pub returns-in-Some : goal.returns-in-Some
returns-in-Some c =
    let a = c.args in
    let k = c.in-Some.ensures in
    (omega arith, out_came a.us.now a.vs.now a.n a.u a.v c.if-u-v.false c.in-Some.k k.0 (omega arith) (omega arith) k.1 k.2)
