-- The sheet that was read stands at the front of the work array as it is held, four bytes for each number, and the envelope around it is compared first.
use Rattle.std.proofs.Common.{◌≡◌, ◌+◌, ◌*◌, ◌++◌, length, take, arith, sym, ap, ap₂, subst, ◌∙◌}
use Rattle.std.proofs.lemmas.Result.{err_from_is_err_and}
use mathlib.Core.List.{flat_map}
use lib.Seq.{length-take-le}
use Rattle.lent.specs.Answered.{Answered, bytes}
use Rattle.lent.specs.Told.{number_of}
use Rattle.lent.proofs.Answered.{answered_refusal}
use Rattle.lent_little.specs.Held.{held_bytes}
use Rattle.sheet_form.specs.Numbers.{members}
use Rattle.sheet_modes.specs.Modes.{header_by, framed}
use Rattle.outcomes.specs.Entries.{first_of, form_outcome, sheet_numbers_by}
use Rattle.outcomes.proofs.Outcomes.{goes_on, unframed, unread, numbers_held}
use Rattle.sheets_numbers.proofs.numbers.Goals as goal

pub framed-requires : goal.framed-requires
framed-requires c = let h = c.in_ok-n.ensures.0 in (members, h.0, h.3)

pub form-requires : goal.form-requires
form-requires c = let h = c.in_ok-n.ensures in (h.0.4, omega (arith, h.0.4, h.1))

pub returns-then-not-framed : goal.returns-then-not-framed
returns-then-not-framed c =
    let a = c.args in
    let h = c.in_ok-n.ensures.0 in
    let header = header_by a.mode a.sheet.now in
    let e : c.framed.result ≡ framed header h.0 = c.framed.ensures members h.0 h.3 ∙ ap (λ o. framed o h.0) (sym h.2) in
    answered_refusal _ _ 52 0 (unframed (form_outcome header) a.mode a.sheet.now h.0 h.1 (sym e ∙ c.if-not-framed.true))

pub returns-in_err-n : goal.returns-in_err-n
returns-in_err-n c =
    let a = c.args in
    let p = err_from_is_err_and c.from_residual.result c.from_residual.ensures.1 in
    rw (p.1, p.2) (answered_refusal _ _ _ _ (unread (form_outcome (header_by a.mode a.sheet.now)) a.mode a.sheet.now _ _ c.in_err-n.ensures.0.0))

pub returns : goal.returns
returns c =
    let a = c.args in
    let h = c.in_ok-n.ensures.0 in
    let n = c.in_ok-n.n in
    let left = c.read.new.numbers in
    let header = header_by a.mode a.sheet.now in
    let e : c.framed.result ≡ framed header h.0 = c.framed.ensures members h.0 h.3 ∙ ap (λ o. framed o h.0) (sym h.2) in
    subst (λ o. Answered o a.out.now (number_of c.form.result) c.form.new.out)
    (sym (goes_on (form_outcome header) a.mode a.sheet.now h.0 h.1 (sym e ∙ c.if-not-framed.false) ∙ numbers_held header h.0 (take n left) h.3
    ∙ ap₂ (λ o k. bytes (length (first_of o) + 4 * k) (first_of o ++ flat_map held_bytes (take n left))) h.2 (length-take-le n left h.4))) c.form.ensures
