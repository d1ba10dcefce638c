-- The first i numbers stand at the front as bytes, and behind them what stood there.
use Rattle.lent_little.specs.Held.{held_bytes}
use Rattle.lent_little.proofs.Bytes.{Written}
use Rattle.lent_numbers.proofs.write.Given as goal

abbrev pub invariant-loop-i : goal.invariant-loop-i
invariant-loop-i l = Written 4 held_bytes l.numbers l.n l.initial.out l.i l.out
