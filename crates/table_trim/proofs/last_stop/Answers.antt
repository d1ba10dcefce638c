-- From a corner that is not above u on down none is strictly between.
use Rattle.std.proofs.Common.{◌≡◌, ℕ, ◌-◌, ◌≤◌, ◌<◌, T, List, length, get_or, ap, arith}
use native.Mathlib.Decide.{dec_le, ℕ_discrete}
use Rattle.plane.specs.Points.{between}
use Rattle.plane.specs.Keys.{point_at, pair}
use Rattle.plane.proofs.Keys.{between_order}
use Rattle.whole_order.specs.Ascending.{Ascending}
use Rattle.whole_order.proofs.Ascending.{ascending_below}
use Rattle.table_trim.proofs.last_stop.Goals as goal

-- Below a corner that is not above u, and up to where none is from i on.
below : (corners : List ℕ) (at i j u v : ℕ) → Ascending corners → u < v → 0 < i → i ≤ length corners → get_or corners (i - 1) 0 ≤ u
    → ((j : ℕ) → i ≤ j → j < at → T (between (point_at (get_or corners j 0)) (pair u v)) → ⊥) → j < at → T (between (point_at (get_or corners j 0)) (pair u v)) → ⊥
below corners at i j u v a way p q h none k t = go (dec_le i j) (ℕ_discrete j (i - 1))
  where
    go : Dec (i ≤ j) → Dec (j ≡ i - 1) → ⊥
    go (yes l) d = none j l k t
    go (no n) (yes e) = let r = ap (λ m. get_or corners m 0) e in omega (arith, (between_order (get_or corners j 0) u v way t).0)
    go (no n) (no m) = omega (arith, (between_order (get_or corners j 0) u v way t).0, ascending_below corners j (i - 1) a (omega arith) (omega arith))

pub returns-then-c-u : goal.returns-then-c-u
returns-then-c-u c =
    let a = c.args in
    record { within = omega arith; stop = λ h. absurd (omega arith); last = λ j h k t. below a.corners.now a.at c.loop-i.i j a.u a.v c.requires.0 c.requires.4 (omega arith) (omega arith) c.if-c-u.true c.loop-i.invariant k t }
