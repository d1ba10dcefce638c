-- `lent_text::put` meets its contract. Assumes nothing.
use mathlib.Core.Path.{refl}
use borrow.Author.Rules.{rules}
use Rattle.lent_text.proofs.Texts.{byte_put}
use Rattle.lent_text.proofs.put.Statement.{statement}
use Rattle.lent_text.proofs.put.Tie as tie

returns : tie.Need-returns
returns c = record { place = refl; text = byte_put _ _ _ c.requires }

pub put_spec : {M : Type 1} → statement M
put_spec = tie.close (tie.spec (λ c. search rules) (λ c. search rules) (λ c. search rules) returns)
