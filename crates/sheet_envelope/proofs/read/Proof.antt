-- `sheet_envelope::read` meets its contract: four doubles, one behind the other. Assumes nothing.
use borrow.Author.Rules.{rules}
use Rattle.sheet_envelope.proofs.read.Statement.{statement}
use Rattle.sheet_envelope.proofs.read.Tie as tie

returns : tie.Need-returns
returns c = cc

pub read_spec : {M : Type 1} → statement M
read_spec =
    tie.close
    (tie.spec
    (λ c κs. search rules)
    (λ c. search rules)
    (λ c κs. search rules)
    (λ c. search rules)
    (λ c κs. search rules)
    (λ c. search rules)
    (λ c κs. search rules)
    returns)
