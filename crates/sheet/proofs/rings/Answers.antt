-- The steps from the beginning reach what the rings read at once reach, and what a step reaches from there.
use Rattle.std.proofs.Common.{◌<◌, ◌+◌, sym, ap, ◌∙◌, subst, true, arith, ◌≡◌, ltb, ltb-true}
use Rattle.std.proofs.lemmas.Result.{err_from_is_err_and}
use Rattle.wkb.specs.declared.Cursor.{Cursor}
use Rattle.sheet.specs.Going.{Ready}
use Rattle.sheet.proofs.Onward.{answer, ready, is_over, follow_over}
use Rattle.sheet.proofs.Closed.{inside_goes}
use Rattle.sheet.proofs.Reaching.{reach_on, reach_step}
use Rattle.sheet.proofs.rings.Goals as goal

-- A test that the place is open.
to_come : (c : Cursor) → ltb 0 (c.rings + c.points) ≡ true → 0 < c.rings + c.points
to_come c h = ltb-true 0 (c.rings + c.points) h

pub taken-requires : goal.taken-requires
taken-requires c =
    let r = c.ring-reached in
    let still = to_come r.result.place (sym c.is_open-in-loop-reached.ensures ∙ c.if-not-is_open.false) in
    subst (Ready r.result.place r.result.build) (sym (ap answer c.step-told.ensures)) (ready _ _ _ (omega arith) r.ensures.0.0.0 (inside_goes _ _ still))

pub returns-in_err-reached : goal.returns-in_err-reached
returns-in_err-reached c =
    let r = c.ring-reached in
    let l = c.loop-reached in
    let still = to_come r.result.place (sym c.is_open-in-loop-reached.ensures ∙ c.if-not-is_open.false) in
    let reached = reach_on _ _ _ _ l.reached _ r.result _ (to_come l.reached.place (sym c.is_open.ensures ∙ c.loop-reached-test.true)) l.invariant r.ensures in
    let p = err_from_is_err_and c.from_residual.result c.from_residual.ensures.1 in
    let stops = is_over _ _ _ _ _ _ (ap answer c.step-told.ensures) _ c.in_err-reached.ensures in
    rw (p.1, p.2) ((tt, (follow_over (record { leads = reached.0.1 }) stops).ends), tt)

pub loop-reached-smaller : goal.loop-reached-smaller
loop-reached-smaller c =
    let r = c.ring-reached in
    let still = to_come r.result.place (sym c.is_open-in-loop-reached.ensures ∙ c.if-not-is_open.false) in
    let step = reach_step _ _ _ _ r.ensures.0.0.0 still _ c.in_ok-reached.reached _ (ap answer c.step-told.ensures) c.in_ok-reached.ensures in
    omega (arith, step.1, step.0.0.0.0.inside, r.ensures.0.0.1)

pub loop-reached-preserved : goal.loop-reached-preserved
loop-reached-preserved c =
    let r = c.ring-reached in
    let l = c.loop-reached in
    let still = to_come r.result.place (sym c.is_open-in-loop-reached.ensures ∙ c.if-not-is_open.false) in
    let reached = reach_on _ _ _ _ l.reached _ r.result _ (to_come l.reached.place (sym c.is_open.ensures ∙ c.loop-reached-test.true)) l.invariant r.ensures in
    reach_on _ _ _ _ r.result _ c.in_ok-reached.reached _ still reached (reach_step _ _ _ _ r.ensures.0.0.0 still _ c.in_ok-reached.reached _ (ap answer c.step-told.ensures) c.in_ok-reached.ensures).0
