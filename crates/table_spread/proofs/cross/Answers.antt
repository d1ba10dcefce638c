-- An untouched side has a reverse, and the triangle of that is taken in.
use Rattle.std.proofs.Common.{◌≡◌, ℕ, suc, ◌-◌, List, get_or, arith}
use native.Mathlib.Decide.{ℕ_discrete}
use Rattle.table.specs.Sides.{evenly}
use Rattle.table_spread.specs.Spreading.{Ends}
use Rattle.table_spread.proofs.Spreading.{may_take, crossed}
use Rattle.table_spread.proofs.cross.Goals as goal

-- The number of the reverse.
reversed : (opposite counts : List ℕ) (k : ℕ) → (Ends opposite counts k → ⊥) → get_or counts k 0 ≡ evenly → get_or opposite k 0 ≡ suc (get_or opposite k 0 - 1)
reversed opposite counts k n e = go (ℕ_discrete (get_or opposite k 0) 0)
  where
    go : Dec (get_or opposite k 0 ≡ 0) → get_or opposite k 0 ≡ suc (get_or opposite k 0 - 1)
    go (yes q) = absurd (n (q, e))
    go (no m) = omega arith

pub meet-requires : goal.meet-requires
meet-requires c =
    let a = c.args in
    let e = reversed a.opposite.now a.counts.now a.k c.requires.5 (omega arith) in
    may_take c.requires.1 _ (omega (arith, c.requires.0.sides a.k (get_or a.opposite.now a.k 0 - 1) c.requires.3 e, c.requires.0.three))

pub returns : goal.returns
returns c =
    let a = c.args in
    let q : get_or a.counts.now a.k 0 ≡ evenly = omega arith in
    crossed c.requires.1 c.requires.0 c.requires.2 a.k (get_or a.opposite.now a.k 0 - 1) c.requires.3 c.requires.4 q (reversed a.opposite.now a.counts.now a.k c.requires.5 q) c.meet.ensures
