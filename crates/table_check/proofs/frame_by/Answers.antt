-- `table_check::frame_by` meets its contract: each corner before the last widens the frame of those behind it. Assumes nothing.
use Rattle.std.proofs.Common.{◌≡◌, ◌∙◌, ap, ◌-◌, ◌<◌, drop, arith}
use Rattle.table.specs.Table.{frame_of}
use Rattle.table_check.proofs.Framing.{frame_none, frame_last, frame_more}
use Rattle.table_check.proofs.frame_by.Goals as goal

pub returns-then-n-eq0-clause-is : goal.returns-then-n-eq0-clause-is
returns-then-n-eq0-clause-is g c = λ s p h each. frame_none s (h ∙ c.if-n-eq0.true)

pub loop-i-init : goal.loop-i-init
loop-i-init g c =
    let r = c.corner-last in
    let i : c.args.n - 1 < c.args.n = omega arith in
    let in_range = c.requires.in_range _ r.result i r.ensures in
    record {
      in_range = record { left = in_range.x; low = in_range.y; right = in_range.x; high = in_range.y };
      is = λ s p h each. frame_last s p (c.args.n - 1) (omega arith) r.result (each _ r.result i r.ensures);
    }

pub loop-i-preserved : goal.loop-i-preserved
loop-i-preserved g c =
    let i = c.loop-i.i in
    let w = c.widened-f.ensures in
    record {
      in_range = w.0;
      is = λ s p h each. w.1 ∙ frame_more s p i (i - 1) (omega arith) (omega arith) c.corner.result (each _ c.corner.result (omega arith) c.corner.ensures) (c.loop-i.invariant.is s p h each);
    }

pub returns-clause-is : goal.returns-clause-is
returns-clause-is g c = λ s p h each. let z : c.loop-i.i ≡ 0 = omega arith in c.loop-i.invariant.is s p h each ∙ ap (λ i. frame_of (drop i s)) z
