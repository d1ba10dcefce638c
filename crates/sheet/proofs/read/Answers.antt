-- The sheet is one geometry, with five levels inside; behind it nothing of the sheet is to come, so the step is the end or 7.
use Rattle.std.proofs.Common.{sym, ap, ◌∙◌, arith}
use Rattle.std.proofs.lemmas.Result.{err_from_is_err_and}
use Rattle.wkb.specs.declared.Told.{Told}
use Rattle.sheet.proofs.Onward.{answer, went_on, was_over}
use Rattle.sheet.proofs.Finish.{begun, sheet_stands, last_step, ends_sheet, ends_seven, ends_refused}
use Rattle.sheet.proofs.read.Goals as goal

pub geometry-requires : goal.geometry-requires
geometry-requires c = rw c.start.ensures (begun _ _ c.requires, sheet_stands _ _ (omega arith))

pub returns-in_err-whole : goal.returns-in_err-whole
returns-in_err-whole c =
    let p = err_from_is_err_and c.from_residual.result c.from_residual.ensures.1 in
    let h = rw c.start.ensures at c.in_err-whole.ensures.0 in
    rw (p.1, p.2) (ends_refused _ _ _ _ _ (was_over _ _ _ _ _ 0 _ h))

pub returns-in_default : goal.returns-in_default
returns-in_default c =
    let q = c.in_ok-whole.whole in
    let h = rw c.start.ensures at c.in_ok-whole.ensures in
    let w = went_on _ _ _ _ _ _ q h.0 in
    let l = last_step _ q.place h.1 w.0.inside in
    rw c.fault.ensures
    (ends_seven _ _ _ _ _ _ w.2 l _ (ap (λ (t : Told). t.began) c.step-told.ensures) (λ x e. c.in_default.not-End x (ap answer c.step-told.ensures ∙ e)))

pub returns : goal.returns
returns c =
    let q = c.in_ok-whole.whole in
    let h = rw c.start.ensures at c.in_ok-whole.ensures in
    let w = went_on _ _ _ _ _ _ q h.0 in
    ends_sheet _ _ _ _ _ _ w.2 (last_step _ q.place h.1 w.0.inside) _ (sym (ap answer c.step-told.ensures) ∙ c.in-End.is)
