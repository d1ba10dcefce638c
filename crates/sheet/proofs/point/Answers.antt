-- Where each test is passed, the step at the place is a point with two coordinates, and its ring is closed if it is the last.
use Rattle.std.proofs.Common.{◌≡◌, sym, ◌∙◌, arith}
use Rattle.wkb.specs.declared.Step.TheVariants.{Point}
use Rattle.wkb.specs.Steps.{after_point, step_at}
use Rattle.sheet.specs.Reading.{taken, judged}
use Rattle.sheet.proofs.Reaching.{point_step, reach_step}
use Rattle.sheet.proofs.point.Goals as goal

pub returns-clause-further : goal.returns-clause-further
unfolding judged taken
returns-clause-further c =
    let d = after_point c.args.c in
    let e : Point c.double.result c.double-2.result d ≡ step_at c.args.s.now c.args.c =
    point_step c.args.s.now c.args.c _ _ c.requires.1 (sym c.remain.ensures ∙ c.if-not-remain.false) c.double.ensures c.double-2.ensures in
    let p = c.after_point.ensures in
    let b = c.pointing.ensures in
    reach_step _ _ _ _ c.requires.0 (omega (arith, c.requires.1)) (Point c.double.result c.double-2.result d) (record { place = _; build = _ }) _ e
    ((p, b.0), λ t out k. rw (sym c.judge.ensures ∙ c.in_ok-x.was, sym c.judge-2.ensures ∙ c.in_ok-y.was, sym (c.differs.ensures t out _ k) ∙ c.if-differs.false) (p, b.1 t out k))
