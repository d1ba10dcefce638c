-- `lent_fields::word` meets its contract: the number of 4 bytes is below 2 ^ 32, so the cast keeps it. Assumes nothing.
use borrow.Author.Rules.{rules}
use Rattle.lent_little.specs.Ordered.{word_at}
use Rattle.lent_fields.proofs.word.Statement.{statement}
use Rattle.lent_fields.proofs.word.Tie as tie

number_requires : tie.Need-number-requires
number_requires c κs = search rules

cast_result : tie.Need-overflow_cast-result
cast_result c = search rules

returns : tie.Need-returns
unfolding word_at
returns c = search rules

pub word_spec : {M : Type 1} → statement M
word_spec = tie.close (tie.spec number_requires cast_result returns)
