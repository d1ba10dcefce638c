-- The first i numbers stand at the front as bytes, and behind them what stood there.
use Rattle.lent_little.specs.Bytes.{set_bytes}
use Rattle.lent_little.proofs.Bytes.{Written}
use Rattle.lent_sets.proofs.write.Given as goal

abbrev pub invariant-loop-i : goal.invariant-loop-i
invariant-loop-i l = Written 8 set_bytes l.numbers l.n l.initial.out l.i l.out
