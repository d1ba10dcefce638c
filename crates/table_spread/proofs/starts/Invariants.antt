-- What is kept: of the touched sides gone through, those that count once have their own triangles labelled.
use Rattle.std.proofs.Common.{ℕ, ◌<◌, get_or}
use Rattle.table_spread.specs.Spreading.{Grown, Seeded, Entered}
use Rattle.table_spread.proofs.starts.Given as goal

abbrev pub invariant-loop-k : goal.invariant-loop-k
invariant-loop-k l = Grown l.initial.labels l.initial.group 0 l.labels l.group l.n × Seeded l.counts l.labels × ((j : ℕ) → j < l.k-index → Entered l.counts l.labels (get_or l.touched j 0))
