-- What is to be noted of the first k sides is noted, of the others nothing.
use Rattle.table_index.specs.Noting.{NotedTo}
use Rattle.table_index.proofs.notes.Given as goal

abbrev pub invariant-loop-k : goal.invariant-loop-k
invariant-loop-k l = NotedTo l.corners l.codes l.initial.index l.index l.k
