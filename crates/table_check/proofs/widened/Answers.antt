-- `table_check::widened` meets its contract: each bound is the lower, or the higher, of two. Assumes nothing.
use Rattle.table_check.proofs.Framing.{lower, higher}
use Rattle.table_check.proofs.widened.Goals as goal

pub returns : goal.returns
returns c =
    let p = c.requires in
    let l = lower p.1.x p.0.left c.min.ensures in
    let o = lower p.1.y p.0.low c.min-2.ensures in
    let r = higher p.1.x p.0.right c.max.ensures in
    let t = higher p.1.y p.0.high c.max-2.ensures in
    (record { left = l.0; low = o.0; right = r.0; high = t.0 }, λ i. record { left = l.1 i; low = o.1 i; right = r.1 i; high = t.1 i })
