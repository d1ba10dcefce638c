-- 41 where the polygon isn't on the sheet, else the room of its rings.
use Rattle.std.proofs.Common.{arith, refl, sym, ap, ◌∙◌, []}
use Rattle.lent.specs.Answered.{answer_of}
use Rattle.judged.proofs.Standing.{few, pairs, table_in}
use Rattle.outcomes.proofs.Judged.{not_asked, asked_byte, begun, room_on}
use Rattle.sheets_answers.proofs.ring_room.Goals as goal

pub on_sheet-requires : goal.on_sheet-requires
on_sheet-requires c = (c.requires.0, c.args.opposite.now, c.args.sets.now, c.requires.1, refl)

pub returns-then-not-on_sheet : goal.returns-then-not-on_sheet
returns-then-not-on_sheet c = λ j w.
    let a = c.args in
    sym (ap (λ o. answer_of o []) (not_asked w a.way a.polygon _ (sym (c.on_sheet.ensures j a.opposite.now a.sets.now w refl) ∙ c.if-not-on_sheet.true)))

pub overflow_cast-polygon : goal.overflow_cast-polygon
overflow_cast-polygon c =
    let a = c.args in
    let w = c.requires.1 in
    omega (arith, asked_byte w a.way a.polygon (sym (c.on_sheet.ensures _ a.opposite.now a.sets.now w refl) ∙ c.if-not-on_sheet.false))

pub ring_room-requires : goal.ring_room-requires
ring_room-requires c = let w = c.requires.1 in (pairs w, few w, table_in w, begun w c.args.way c.args.polygon)

pub returns : goal.returns
returns c = λ j w.
    let a = c.args in
    c.ring_room.ensures ∙ ap (λ o. answer_of o []) (room_on w a.way a.polygon (sym (c.on_sheet.ensures j a.opposite.now a.sets.now w refl) ∙ c.if-not-on_sheet.false))
