-- 41 where the polygon isn't on the sheet, else what is told of its rings.
use Rattle.std.proofs.Common.{arith, refl, sym, subst, ◌∙◌}
use Rattle.lent.specs.Answered.{Answered}
use Rattle.lent.specs.Told.{number_of}
use Rattle.lent.proofs.Answered.{answered_refusal}
use Rattle.judged.proofs.Standing.{few, pairs, table_in}
use Rattle.outcomes.proofs.Judged.{not_asked, asked_byte, begun, rings_on}
use Rattle.sheets_answers.proofs.rings.Goals as goal

pub on_sheet-requires : goal.on_sheet-requires
on_sheet-requires c = (c.requires.0, c.args.opposite.now, c.args.sets.now, c.requires.1, refl)

pub returns-then-not-on_sheet : goal.returns-then-not-on_sheet
returns-then-not-on_sheet c = λ j w.
    let a = c.args in
    answered_refusal _ a.out.now 41 0 (not_asked w a.way a.polygon _ (sym (c.on_sheet.ensures j a.opposite.now a.sets.now w refl) ∙ c.if-not-on_sheet.true))

pub overflow_cast-polygon : goal.overflow_cast-polygon
overflow_cast-polygon c =
    let a = c.args in
    let w = c.requires.1 in
    omega (arith, asked_byte w a.way a.polygon (sym (c.on_sheet.ensures _ a.opposite.now a.sets.now w refl) ∙ c.if-not-on_sheet.false))

pub rings-requires : goal.rings-requires
rings-requires c = let w = c.requires.1 in (pairs w, few w, table_in w, begun w c.args.way c.args.polygon)

pub returns : goal.returns
returns c = λ j w.
    let a = c.args in
    subst (λ o. Answered o a.out.now (number_of c.rings.result) c.rings.new.out)
    (rings_on w a.way a.polygon (sym (c.on_sheet.ensures j a.opposite.now a.sets.now w refl) ∙ c.if-not-on_sheet.false)) c.rings.ensures
