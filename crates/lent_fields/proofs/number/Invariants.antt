-- v is the number of the k most significant bytes, in either byte order, and below 2 ^ (8 * k).
use Rattle.std.proofs.Common.{◌≡◌, ◌<◌, ◌*◌, ◌^◌}
use Rattle.lent_little.proofs.Ordered.{top}
use Rattle.lent_fields.proofs.number.Given as goal

abbrev pub invariant-loop-k : goal.invariant-loop-k
invariant-loop-k l = record { is : l.v ≡ top l.little l.s l.at l.n l.k; fits : l.v < 2 ^ (8 * l.k) }
