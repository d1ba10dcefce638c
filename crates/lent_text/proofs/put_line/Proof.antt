-- `lent_text::put_line` meets its contract: each part stands behind those before it. Assumes nothing.
use native.Mathlib.Omega.{arith}
use borrow.Author.Rules.{rules}
use Rattle.lent_text.proofs.Texts.{put_behind}
use Rattle.lent_text.proofs.put_line.Statement.{statement}
use Rattle.lent_text.proofs.put_line.Tie as tie

returns : tie.Need-returns
returns c =
    let word = c.put_word-behind in
    let p = word.ensures in
    let q = c.put-first.ensures in
    let r = c.put_number-last.ensures in
    let s = c.put-second.ensures in
    let t = c.put_number-end.ensures in
    let u = c.put.ensures in
    let v = put_behind (omega (arith, p.place, word.auto.text)) q r.1 in
    let x = put_behind (omega (arith, p.place, q.place, r.0, word.auto.text, c.put-first.auto.text, c.put_number-last.auto.text)) s t.1 in
    (omega (arith, p.place, q.place, r.0, s.place, t.0, u.place), put_behind (omega arith) (put_behind (omega arith) (put_behind (omega arith) p v) x) u)

pub put_line_spec : {M : Type 1} → statement M
put_line_spec =
    tie.close
    (tie.spec
    (λ c κs. search rules)
    (λ c κs. search rules)
    (λ c κs. search rules)
    (λ c κs. search rules)
    (λ c κs. search rules)
    (λ c κs. search rules)
    (λ c. search rules)
    returns)
