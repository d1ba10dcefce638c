-- The numbers behind the first give the sheet, which is refused alike with the blob, or stands behind the header.
use Rattle.std.proofs.Common.{◌-◌, ◌*◌, List, ℕ, length, take, drop, refl, arith}
use Rattle.std.proofs.lemmas.Result.{err_from_is_err_and}
use Rattle.sheet_blob_writer.proofs.Outcomes.{tail_is, no_number, header_short, sheet_short, done, fits_answer, blob_over}
use Rattle.sheet_blob_writer.proofs.write.Goals as goal

-- The bytes of the sheet's numbers form.
abbrev form : List ℕ → List ℕ
form s = take (length s - 4) (drop 4 s)

pub returns-then-numbers-lt4 : goal.returns-then-numbers-lt4
returns-then-numbers-lt4 c = no_number _ _ c.if-numbers-lt4.true

pub returns-then-out-lt40 : goal.returns-then-out-lt40
returns-then-out-lt40 c =
    let s = c.args.numbers.now in
    header_short s c.args.out.now c.if-numbers-lt4.false (form s) (tail_is 4 s) _ _ _ c.if-out-lt40.true refl c.write.ensures.answered

pub returns-in_err-size : goal.returns-in_err-size
returns-in_err-size c =
    let p = err_from_is_err_and c.from_residual.result c.from_residual.ensures.1 in
    let s = c.args.numbers.now in
    let u = c.in_err-size.ensures.refused in
    rw (p.1, p.2) (sheet_short s c.args.out.now c.if-numbers-lt4.false (form s) (tail_is 4 s) _ _ _ c.if-out-lt40.false refl c.in_err-size.ensures.answered (λ z. omega (arith, u)))

pub frame-f-requires : goal.frame-f-requires
frame-f-requires c =
    let s = c.args.numbers.now in
    let w = done s c.args.out.now c.if-numbers-lt4.false (form s) (tail_is 4 s) _ _ _ c.if-out-lt40.false refl c.in_ok-size.ensures.answered (omega arith) in
    (w.sheet, w.is)

pub overflow_add-result : goal.overflow_add-result
overflow_add-result c =
    let s = c.args.numbers.now in
    let few = fits_answer s c.args.out.now c.if-numbers-lt4.false (form s) (tail_is 4 s) _ _ (c.in_ok-size.size * 256) c.if-out-lt40.false refl c.in_ok-size.ensures.answered (omega arith) in
    record { fits = omega arith }

pub returns : goal.returns
returns c =
    let s = c.args.numbers.now in
    blob_over s c.args.out.now c.if-numbers-lt4.false (form s) (tail_is 4 s) _ _ (c.in_ok-size.size * 256) c.if-out-lt40.false refl c.in_ok-size.ensures.answered (omega arith)
    _ _ _ _ (omega arith) c.word.ensures c.frame-f.ensures.1 c.header.ensures
