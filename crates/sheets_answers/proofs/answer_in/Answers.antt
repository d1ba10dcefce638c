-- A refusal of the judged sheet is the answer; else the sheet, the reverses of its sides and its owner sets stand at the fronts of the lent lists.
use Rattle.std.proofs.Common.{◌≡◌, ◌*◌, ◌≤◌, List, ℕ, length, take, arith, sym, ap, subst}
use lib.ListN.{length-take}
use lib.Seq.{length-take-le}
use Rattle.std.proofs.lemmas.Result.{err_from_is_err_and}
use Rattle.lent.specs.Stages.{and_then}
use Rattle.lent.specs.Answered.{Answered}
use Rattle.lent.specs.Told.{number_of}
use Rattle.lent.proofs.Answered.{answered_refusal}
use Rattle.judged.proofs.Standing.{sets_many, pairs}
use Rattle.outcomes.specs.Entries.{goes_on}
use Rattle.sheets_answers.proofs.answer_in.Goals as goal

pub slice_bounds-go_on-end : goal.slice_bounds-go_on-end
slice_bounds-go_on-end c = let (j, e, t, w) = c.in_ok-n.ensures in omega (arith, (pairs w).sides, sets_many w, length-take (3 * c.in_ok-n.n) c.judged_with.new.opposite)

pub slice_bounds-go_on-end-2 : goal.slice_bounds-go_on-end-2
slice_bounds-go_on-end-2 c =
    let (j, e, t, w) = c.in_ok-n.ensures in
    sym (length-take-le _ _ (omega (arith, (pairs w).sides, sets_many w, length-take (3 * c.in_ok-n.n) c.judged_with.new.opposite)))

pub slice_bounds-go_on-end-3 : goal.slice_bounds-go_on-end-3
slice_bounds-go_on-end-3 c = let (j, e, t, w) = c.in_ok-n.ensures in omega (arith, sets_many w, length-take c.in_ok-n.n c.judged_with.new.sets)

pub slice_bounds-go_on-end-4 : goal.slice_bounds-go_on-end-4
slice_bounds-go_on-end-4 c =
    let (j, e, t, w) = c.in_ok-n.ensures in sym (length-take-le _ _ (omega (arith, sets_many w, length-take c.in_ok-n.n c.judged_with.new.sets)))

pub go_on-requires : goal.go_on-requires
go_on-requires c = let (j, e, t, w) = c.in_ok-n.ensures in (j, w)

pub returns : goal.returns
returns c =
    let a = c.args in
    let (j, judged, t, w) = c.in_ok-n.ensures in
    subst (λ o. Answered o a.out.now (number_of c.go_on.result) c.go_on.new.out) (sym (ap (λ r. and_then r (goes_on a.asked.way a.asked.wanted)) judged)) (c.go_on.ensures j w)

pub returns-in_err-n : goal.returns-in_err-n
returns-in_err-n c =
    let a = c.args in
    let p = err_from_is_err_and c.from_residual.result c.from_residual.ensures.1 in
    rw (p.1, p.2) (answered_refusal _ a.out.now _ _ (ap (λ r. and_then r (goes_on a.asked.way a.asked.wanted)) c.in_err-n.ensures))
