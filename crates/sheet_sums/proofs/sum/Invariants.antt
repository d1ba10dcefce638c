-- The corners before the one that comes are summed up, and the points from it on are left.
use Rattle.std.proofs.Common.{List, ℤ, ◌+◌, ◌*◌}
use Rattle.plane.specs.Members.{Ring}
use Rattle.plane.specs.Keys.{Held}
use Rattle.sheet_sums.specs.Standing.{RingAt}
use Rattle.sheet_sums.proofs.Summing.{Summing}
use Rattle.sheet_sums.proofs.sum.Given as goal

abbrev pub invariant-loop-k : goal.invariant-loop-k
invariant-loop-k l = record {
  held : Held l.before;
  sums : (r : Ring) (rest : List ℤ) → RingAt l.numbers l.at r rest → Summing l.numbers r rest (l.at + 2 * l.corners + 1) l.before (l.at + 1 + 2 * l.k) l.total;
}
