-- What is collected is the region of t, and the number chosen for it its owner. Assumes nothing.
use Rattle.std.proofs.Common.{arith, ◌≡◌, get_or}
use Rattle.repair_regions.proofs.Spreading.{most, in_table}
use Rattle.repair.proofs.Giving.{region_marked, region_given}
use Rattle.repair.proofs.give.Goals as goal

pub choose-owner-requires : goal.choose-owner-requires
choose-owner-requires c =
    let p = c.requires in
    let g = c.collect-n.ensures.0 in
    (p.0, p.1, p.2, g.more, most g.meeting, omega (arith, most g.meeting, g.meeting.room, p.3), λ j h. in_table g.meeting _ (g.meeting.own j h))

pub fill-requires : goal.fill-requires
fill-requires c =
    let g = c.collect-n.ensures.0 in
    (g.more, most g.meeting, λ j h. omega (arith, in_table g.meeting _ (g.meeting.own j h), c.requires.4.as_many))

pub returns : goal.returns
returns c =
    let p = c.requires in
    let t = c.args.t in
    let a = c.collect-n.ensures in
    let zero : get_or c.args.numbers.now t 0 ≡ 0 = omega (arith, c.if-numbers-t-ne0.false) in
    let marked = region_marked p.0 p.4 t p.5 zero c.if-met-t.false a.0 a.1 a.2 (a.3 zero) in (
      region_given p.0 p.4 t p.5 zero c.if-met-t.false a.0 a.1 a.2 (a.3 zero) (c.choose-owner.ensures _ marked) c.fill.ensures,
      record { still = a.0.still; there = a.3 },
    )
