-- The numbers across the sides of the next triangle are taken in. Assumes nothing.
use Rattle.std.proofs.Common.{arith, ◌≡◌, ◌+◌, ◌-◌, get_or, take, drop}
use Rattle.std.proofs.lemmas.Grind.{common_steps}
use Rattle.repair.proofs.Giving.{best_next}
use Rattle.repair.proofs.highest.Goals as goal

pub loop-u-preserved : goal.loop-u-preserved
loop-u-preserved c =
    let a = c.args in
    let here : get_or (take (a.n - a.first) (drop a.first a.group.now)) c.loop-u.u-index 0 ≡ get_or a.group.now (a.first + c.loop-u.u-index) 0 = grind (arith, common_steps) in
    best_next c.loop-u.u-index c.loop-u.invariant here c.with_triangle-best.ensures
