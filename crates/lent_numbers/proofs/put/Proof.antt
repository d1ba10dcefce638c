-- `lent_numbers::put` meets its contract: the four low bytes of the bits are the number's. Assumes nothing.
use mathlib.Core.Path.{◌∙◌, ap}
use lib.Seq.{sets}
use borrow.Author.Rules.{rules}
use Rattle.lent_little.specs.Ordered.{bytes}
use Rattle.lent_numbers.proofs.put.Statement.{statement}
use Rattle.lent_numbers.proofs.put.Tie as tie

returns : tie.Need-returns
returns c =
    let a = c.args in
    c.put.ensures ∙ ap (λ b. sets a.out.now a.at (bytes 4 b)) c.bits.ensures

pub put_spec : {M : Type 1} → statement M
put_spec = tie.close (tie.spec (λ c κs. search rules) (λ c. search rules) (λ c κs. search rules) (λ c. search rules) returns)
