-- No corner from `at` up to here is strictly between.
use Rattle.std.proofs.Common.{ℕ, ◌≤◌, ◌<◌, T, get_or}
use Rattle.plane.specs.Points.{between}
use Rattle.plane.specs.Keys.{point_at, pair}
use Rattle.table_count.proofs.next_stop.Given as goal

abbrev pub invariant-loop-i : goal.invariant-loop-i
invariant-loop-i l = (j : ℕ) → l.at ≤ j → j < l.i → T (between (point_at (get_or l.corners j 0)) (pair l.u l.v)) → ⊥
