-- The next triangle is in the group, and so in the table: where a side of it ends there is no set, else those across its sides are met.
use Rattle.std.proofs.Common.{sym, subst, get_or, arith}
use Rattle.table_labels.specs.Labels.{Sided}
use Rattle.table_spread.proofs.Spreading.{most, grown_more, spread_one, open_none}
use Rattle.table_spread.proofs.spreads.Goals as goal

pub offset_bounds-group-i : goal.offset_bounds-group-i
offset_bounds-group-i c = omega (arith, most c.loop-i.invariant.grown.meeting)

pub bounds-group-i : goal.bounds-group-i
bounds-group-i c = omega (arith, most c.loop-i.invariant.grown.meeting)

pub returns-then-open : goal.returns-then-open
returns-then-open c =
    let l = c.loop-i in
    let m = l.invariant in
    let sided = subst (λ k. Sided c.args.opposite.now c.args.counts.now k) (sym m.grown.marks) c.requires.0 in
    (m.grown.marks, m.grown.still, open_none sided m.forced (get_or l.group l.i 0) (m.grown.meeting.own l.i (omega arith)) c.if-open.ensures)

pub loop-i-smaller : goal.loop-i-smaller
loop-i-smaller c = omega (arith, most c.loop-i.invariant.grown.meeting, c.loop-i.invariant.grown.places)

pub loop-i-preserved : goal.loop-i-preserved
loop-i-preserved c =
    let l = c.loop-i in
    let m = l.invariant in
    let a = c.around-n.ensures in
    record { grown = grown_more m.grown a.0; forced = a.1; from = spread_one a.0 l.i (omega arith) m.from a.2; before = omega (arith, a.0.more) }
