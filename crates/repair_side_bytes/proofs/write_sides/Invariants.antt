-- The first i sides stand at the front as bytes, and behind them what stood there. Assumes nothing.
use Rattle.std.proofs.Common.{length}
use Rattle.lent_little.specs.Held.{side_held}
use Rattle.lent_little.proofs.Bytes.{Written}
use Rattle.repair_side_bytes.proofs.write_sides.Given as goal

abbrev pub invariant-loop-i : goal.invariant-loop-i
invariant-loop-i l = Written 16 (side_held l.numbers) l.sides (length l.sides) l.initial.out l.i l.out
