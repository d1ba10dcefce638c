-- `lent_fields::remain` meets its contract: where the place is no later than the end, the test of the rest is the test of the sum.
-- Assumes nothing.
use borrow.Author.Rules.{rules}
use borrow.Author.Tests.{lt-leb}
use mathlib.Core.Path.{sym}
use Prim.Native.Nat.{◌+◌}
use native.Mathlib.Omega.{arith}
use lib.ListN.{length}
use Rattle.lent_fields.proofs.Remains.{within}
use Rattle.lent_fields.proofs.remain.Statement.{statement}
use Rattle.lent_fields.proofs.remain.Tie as tie

sub_result : tie.Need-overflow_sub-result
sub_result c = search rules

returns : tie.Need-returns-then-at-s
returns c = let a = c.args in within a.n a.at (a.at + a.n) (length a.s.now) c.if-at-s.true (omega arith)

returns_2 : tie.Need-returns-else-at-s
returns_2 c = let a = c.args in sym (lt-leb (a.at + a.n) (length a.s.now) (omega arith))

pub remain_spec : {M : Type 1} → statement M
remain_spec = tie.close (tie.spec sub_result returns returns_2)
