-- The sum is below the divisor, so that the next product and sum fit.
use Rattle.std.proofs.Common.{◌<◌}
use Rattle.entries_try.proofs.checksum.Given as goal

abbrev pub invariant-loop-b : goal.invariant-loop-b
invariant-loop-b l = l.h < 1_000_000_007
