-- `lent_fields::double` meets its contract: the pattern is the number of the 8 bytes. Assumes nothing.
use borrow.Author.Rules.{rules}
use Rattle.lent_little.specs.Ordered.{double_at}
use Rattle.lent_fields.proofs.double.Statement.{statement}
use Rattle.lent_fields.proofs.double.Tie as tie

number_requires : tie.Need-number-requires
number_requires c κs = search rules

of_pattern_requires : tie.Need-of_pattern-requires
of_pattern_requires c κs = search rules

returns : tie.Need-returns
unfolding double_at
returns c = cc

pub double_spec : {M : Type 1} → statement M
double_spec = tie.close (tie.spec number_requires of_pattern_requires returns)
