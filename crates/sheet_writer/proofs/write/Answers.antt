-- The walk over no room tells whether a sheet is given and how long it is, and the walk over the lent bytes writes it.
use Rattle.std.proofs.Common.{◌≡◌, ◌∷◌, [], ◌%◌, ◌≤◌, ℕ, List, Option, None, Some, Result, Err, length, subst, arith}
use Rattle.std.specs.Option.{ok_or}
use mathlib.Core.Option.{none}
use Rattle.std.proofs.lemmas.Result.{err_from_is_err_and}
use Rattle.lent.specs.declared.Refusal.{Refusal}
use Rattle.sheet_form.specs.Form.{numbers_in}
use Rattle.sheet_form.specs.Numbers.{members}
use Rattle.sheet_written.specs.Given.{sheet_given}
use Rattle.sheet_written.specs.Normal.{written}
use Rattle.sheet_writer.specs.Emit.{emit_sheet}
use Rattle.sheet_writer.specs.Walks.{Ended}
use Rattle.sheet_written.proofs.Given.{given_fits}
use Rattle.sheet_written.proofs.Outcomes.{none_given, too_long, written_over}
use Rattle.sheet_written.proofs.Sized.{written_small}
use Rattle.sheet_writer.proofs.Gives.{given_odd, given_long, Seen, ended_ill, ended_well, written_again}
use Rattle.sheet_writer.proofs.Numbers.{numbers_length}
use Rattle.sheet_writer.proofs.write.Goals as goal

pub returns-then-numbers-ne0-clause-answered : goal.returns-then-numbers-ne0-clause-answered
returns-then-numbers-ne0-clause-answered c = none_given _ _ (given_odd _ c.if-numbers-ne0.true)

pub returns-then-numbers-gt65800-clause-answered : goal.returns-then-numbers-gt65800-clause-answered
returns-then-numbers-gt65800-clause-answered c = none_given _ _ (given_long _ c.if-numbers-ne0.false c.if-numbers-gt65800.true)

pub sheet-requires : goal.sheet-requires
sheet-requires c = omega (arith, numbers_length c.args.numbers.now)

-- The walk over no room, by what is made of it.
failed : (s before after : List ℕ) (r : Option ℕ) (q f : Refusal) → length s % 4 ≡ 0 → Ended (emit_sheet (numbers_in s)) before r after → ◌≡◌ {A = Result ℕ Refusal} (Err f) (ok_or r q) → (f ≡ q) × (sheet_given members s ≡ none)
failed s before after None q f fours h e = (cc e, ended_ill s fours before after h)
failed s before after (Some k) q f fours h e = absurd (cc e)

seen : (s before after : List ℕ) (r : Option ℕ) (k : ℕ) → length s % 4 ≡ 0 → Ended (emit_sheet (numbers_in s)) before r after → r ≡ Some k → Seen s k
seen s before after r k fours h e = ended_well s fours before after k (subst (λ r. Ended (emit_sheet (numbers_in s)) before r after) e h)

pub returns-in_err-size-clause-answered : goal.returns-in_err-size-clause-answered
returns-in_err-size-clause-answered c =
    let p = err_from_is_err_and c.from_residual.result c.from_residual.ensures.1 in
    let (q, n) = failed c.args.numbers.now (0 ∷ []) c.sheet.new.out c.sheet.result _ _ c.if-numbers-ne0.false c.sheet.ensures c.in_err-size.ensures.value in
    rw (p.1, p.2, q) (none_given _ _ n)

pub returns-in_err-size-clause-refused : goal.returns-in_err-size-clause-refused
returns-in_err-size-clause-refused c =
    let p = err_from_is_err_and c.from_residual.result c.from_residual.ensures.1 in
    let (q, n) = failed c.args.numbers.now (0 ∷ []) c.sheet.new.out c.sheet.result _ _ c.if-numbers-ne0.false c.sheet.ensures c.in_err-size.ensures.value in
    rw (p.1, p.2, q) (omega arith, omega arith)

pub returns-then-size-out-clause-answered : goal.returns-then-size-out-clause-answered
returns-then-size-out-clause-answered c =
    let w = seen c.args.numbers.now (0 ∷ []) c.sheet.new.out c.sheet.result _ c.if-numbers-ne0.false c.sheet.ensures c.in_ok-size.ensures.ok_part in
    too_long _ _ w.sheet w.is (omega (arith, w.size, c.if-size-out.true))

pub sheet-requires-2 : goal.sheet-requires-2
sheet-requires-2 c = omega (arith, numbers_length c.args.numbers.now)

pub overflow_cast-result : goal.overflow_cast-result
overflow_cast-result c =
    let w = seen c.args.numbers.now (0 ∷ []) c.sheet.new.out c.sheet.result _ c.if-numbers-ne0.false c.sheet.ensures c.in_ok-size.ensures.ok_part in
    record { fits = omega (arith, w.size, written_small _ w.sheet (given_fits _ _ w.sheet w.is)) }

pub returns-clause-answered : goal.returns-clause-answered
returns-clause-answered c =
    let w = seen c.args.numbers.now (0 ∷ []) c.sheet.new.out c.sheet.result _ c.if-numbers-ne0.false c.sheet.ensures c.in_ok-size.ensures.ok_part in
    let h : length (written w.sheet) ≤ length c.args.out.now = omega (arith, w.size, c.if-size-out.false) in
    written_over _ _ w.sheet w.is _ _ w.size h (written_again c.args.numbers.now c.if-numbers-ne0.false _ _ _ w.sheet w.is c.sheet-2.ensures h)
