-- The first k points and the last k are in place, and those between them are left.
use Rattle.std.proofs.Common.{◌+◌, ◌*◌, ◌-◌}
use Rattle.sheet_older.proofs.Round.{Turning}
use Rattle.sheet_older.proofs.turn_round.Given as goal

abbrev pub invariant-loop-k : goal.invariant-loop-k
invariant-loop-k l = Turning l.fn.numbers l.at l.numbers (l.at + 1 + 2 * l.k) (l.next - 2 - 2 * l.k)
