-- What was read is a sheet within the limits, and goes on to its owner sets.
use Rattle.std.proofs.Common.{sym, ap, subst}
use Rattle.std.proofs.lemmas.Result.{err_from_is_err_and}
use mathlib.Core.Logic.{inl}
use Rattle.table_neighbours.specs.Neighbours.{lent_if}
use Rattle.sheet_modes.specs.Modes.{framed}
use Rattle.judged.specs.Judging.{OwnedOf}
use Rattle.judged.proofs.Stages.{with_refused}
use Rattle.judged.proofs.Read.{judged_as}
use Rattle.judged.proofs.judged_with.Goals as goal

pub returns-in_err-n : goal.returns-in_err-n
returns-in_err-n c =
    let p = err_from_is_err_and c.from_residual.result c.from_residual.ensures.1 in
    rw (p.1, p.2) (with_refused c.args.mode c.args.sheet.now (lent_if c.args.indexed c.args.lent.now) _ _ (inl c.in_err-n.ensures.0.0))

pub returns : goal.returns
returns c =
    let h = c.in_ok-n.ensures.0 in
    let index = lent_if c.args.indexed c.args.lent.now in
    judged_as index c.args.mode c.args.sheet.now h.0 h.1 c.in_ok-n.n c.read.new.numbers h.3 h.5 c.judge.new.opposite c.judge.new.sets c.judge.result
    (subst (λ b. OwnedOf index b h.0 c.judge.result c.judge.new.opposite c.judge.new.sets) (ap (λ a. framed a h.0) (sym h.2)) (c.judge.ensures h.0 h.3))
