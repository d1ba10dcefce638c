-- `lent_fields::place` meets its contract: each arm is a case of `place_of`.
-- Assumes nothing.
use borrow.Author.Rules.{rules}
use native.Mathlib.Omega.{arith}
use Rattle.lent_fields.proofs.place.Statement.{statement}
use Rattle.lent_fields.proofs.place.Tie as tie

sub_result : tie.Need-overflow_sub-result
sub_result c = search rules

sub_result_2 : tie.Need-overflow_sub-result-then-little
sub_result_2 c = search rules

add_result : tie.Need-overflow_add-result
add_result c = search rules

add_result_2 : tie.Need-overflow_add-result-else-little
add_result_2 c = search rules

returns : tie.Need-returns-then-little
returns c = rw c.if-little.true (omega arith)

returns_2 : tie.Need-returns-else-little
returns_2 c = rw c.if-little.false (omega arith)

pub place_spec : {M : Type 1} → statement M
place_spec = tie.close (tie.spec sub_result sub_result_2 add_result add_result_2 returns returns_2)
