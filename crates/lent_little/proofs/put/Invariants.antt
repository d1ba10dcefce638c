-- To write the bytes that are left is to write them all.
use Rattle.std.proofs.Common.{◌≡◌, ◌+◌, ◌-◌}
use Rattle.std.proofs.Math.Seq.{sets}
use Rattle.lent_little.specs.Ordered.{bytes}
use Rattle.lent_little.proofs.put.Given as goal

abbrev pub invariant-loop-i : goal.invariant-loop-i
invariant-loop-i l = sets l.out (l.to + l.i) (bytes (l.n - l.i) l.v) ≡ sets l.initial.out l.to (bytes l.n l.value)
