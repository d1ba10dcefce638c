-- The edge is trimmed as it goes up, and turned where it goes down.
use Rattle.std.proofs.Common.{◌≡◌, arith}
use Rattle.table_trim.proofs.Ends.{left_up, left_down}
use Rattle.table_trim.proofs.left.Goals as goal

pub returns-then-p-q : goal.returns-then-p-q
returns-then-p-q c =
    let a = c.args in
    let low : c.min.result ≡ a.p = omega (arith, c.min.ensures) in
    let high : c.max-v.result ≡ a.q = omega (arith, c.max-v.ensures) in
    left_up a.corners.now a.p a.q c.head-x.result c.tail-y.result (rw (low, high) at c.head-x.ensures) (rw high at c.tail-y.ensures)

pub returns-else-p-q : goal.returns-else-p-q
returns-else-p-q c =
    let a = c.args in
    let low : c.min.result ≡ a.q = omega (arith, c.min.ensures) in
    let high : c.max-v.result ≡ a.p = omega (arith, c.max-v.ensures) in
    left_down a.corners.now a.p a.q c.head-x.result c.tail-y.result (rw (low, high) at c.head-x.ensures) (rw high at c.tail-y.ensures)
