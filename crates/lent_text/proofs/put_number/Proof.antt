-- `lent_text::put_number` meets its contract. Assumes nothing.
use borrow.Author.Rules.{rules}
use Rattle.lent_text.specs.Text.{decimal}
use Rattle.lent_text.proofs.put_number.Statement.{statement}
use Rattle.lent_text.proofs.put_number.Tie as tie

returns : tie.Need-returns
unfolding decimal
returns c = c.put_digits.ensures

pub put_number_spec : {M : Type 1} → statement M
put_number_spec = tie.close (tie.spec (λ c κs. search rules) (λ c. search rules) returns)
