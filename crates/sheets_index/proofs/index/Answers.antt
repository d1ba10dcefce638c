-- A refusal of reading is the answer, and else the sheet that was read goes on to its index.
use Rattle.std.proofs.Common.{sym, ap, subst, ◌∙◌}
use Rattle.std.proofs.lemmas.Result.{err_from_is_err_and}
use Rattle.lent.specs.Answered.{Answered}
use Rattle.lent.specs.Told.{number_of}
use Rattle.lent.proofs.Answered.{answered_refusal}
use Rattle.sheet_modes.specs.Modes.{framed}
use Rattle.outcomes.specs.Entries.{index_outcome}
use Rattle.outcomes.proofs.Index.{index_read, index_unread}
use Rattle.sheets_index.proofs.index.Goals as goal

pub index_of-requires : goal.index_of-requires
index_of-requires c = let h = c.in_ok-n.ensures.0 in (h.0, h.3)

pub returns-in_err-n : goal.returns-in_err-n
returns-in_err-n c =
    let a = c.args in
    let p = err_from_is_err_and c.from_residual.result c.from_residual.ensures.1 in
    rw (p.1, p.2) (answered_refusal _ a.out.now _ _ (index_unread a.mode a.sheet.now _ _ c.in_err-n.ensures.0.0))

pub returns : goal.returns
returns c =
    let a = c.args in
    let h = c.in_ok-n.ensures.0 in
    subst (λ o. Answered o a.out.now (number_of c.index_of.result) c.index_of.new.out)
    (ap (λ o. index_outcome (framed o h.0) h.0) (sym h.2) ∙ index_read a.mode a.sheet.now h.0 h.1) (c.index_of.ensures h.0 h.3)
