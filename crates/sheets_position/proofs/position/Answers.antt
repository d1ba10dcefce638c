-- What is told is the refusal of reading with its position, 52, or the bytes of the numbers.
use Rattle.std.proofs.Common.{◌≡◌, ◌+◌, ◌*◌, ◌≤◌, length, take, arith, sym, ap, ap₂, subst, ◌∙◌}
use Rattle.std.specs.Prelude.{Option, None, Some}
use lib.Seq.{length-take-le}
use Rattle.lent.specs.Answered.{Answered}
use Rattle.lent.specs.Told.{number_of}
use Rattle.lent_little.proofs.Ordered.{length_bytes}
use Rattle.sheet_form.specs.Numbers.{members}
use Rattle.sheet_blob.specs.declared.Opened.{Opened}
use Rattle.sheet_modes.specs.Modes.{header_by, framed}
use Rattle.sheet_modes.specs.Held.{around_of}
use Rattle.outcomes.specs.Entries.{first_of, telling}
use Rattle.outcomes.proofs.Position.{position_read, position_unframed}
use Rattle.sheets_position.proofs.position.Goals as goal

-- The bytes of the first number are few.
at_most : (a : Option Opened) → length (first_of (around_of a)) ≤ 4
at_most None = omega arith
at_most (Some h) = omega (arith, length_bytes 4 h.number)

pub overflow_add-first : goal.overflow_add-first
overflow_add-first c = let h = c.in-Ok.ensures in omega (arith, h.0.4, h.1, c.first.ensures, at_most c.in-Ok.around)

pub returns-then-not-framed : goal.returns-then-not-framed
returns-then-not-framed c =
    let a = c.args in
    let h = c.in-Ok.ensures.0 in
    let e : c.framed.result ≡ framed (header_by a.mode a.sheet.now) h.0 = c.framed.ensures members h.0 h.3 ∙ ap (λ o. framed o h.0) (sym h.2) in
    subst (λ q. Answered q a.out.now (number_of c.tell-then-not-framed.result) c.tell-then-not-framed.new.out)
    (ap (λ z. telling z 0) c.answer-then-not-framed.ensures ∙ sym (position_unframed a.mode a.sheet.now h.0 h.1 (sym e ∙ c.if-not-framed.true))) c.tell-then-not-framed.ensures

pub returns-else-not-framed : goal.returns-else-not-framed
returns-else-not-framed c =
    let a = c.args in
    let h = c.in-Ok.ensures.0 in
    let n = c.in-Ok.n in
    let left = c.read.new.numbers in
    let e : c.framed.result ≡ framed (header_by a.mode a.sheet.now) h.0 = c.framed.ensures members h.0 h.3 ∙ ap (λ o. framed o h.0) (sym h.2) in
    let p = position_read a.mode a.sheet.now h.0 h.1 (take n left) h.3 (sym e ∙ c.if-not-framed.false) in
    let o : length (first_of (header_by a.mode a.sheet.now)) ≡ c.first.result = ap (λ o. length (first_of o)) h.2 ∙ sym c.first.ensures in
    subst (λ q. Answered q a.out.now (number_of c.tell-in-Ok.result) c.tell-in-Ok.new.out)
    (ap (λ z. telling z 0) c.answer-in-Ok.ensures ∙ sym (p ∙ ap₂ (λ x y. telling ((x + 4 * y) * 256) 0) o (length-take-le n left h.4))) c.tell-in-Ok.ensures
