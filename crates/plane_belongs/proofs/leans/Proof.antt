-- `plane_belongs::leans` meets its contract: held numbers stand in the order of their coordinates. Assumes nothing.
use mathlib.Core.Path.{sym}
use native.Mathlib.Omega.{arith}
use Rattle.plane_belongs.proofs.Kept.{downward, upward, level}
use Rattle.plane_belongs.proofs.leans.Statement.{statement}
use Rattle.plane_belongs.proofs.leans.Tie as tie

returns : tie.Need-returns-then-v-u
returns c = let a = c.args in sym (downward a.u a.v c.if-v-u.true)

returns_2 : tie.Need-returns-then-u-v
returns_2 c = let a = c.args in sym (upward a.u a.v c.if-u-v.true)

returns_3 : tie.Need-returns
returns_3 c =
    let o = c in
    let a = o.args in
    sym (level a.u a.v (omega (arith, o.if-u-v.false, o.if-v-u.false)))

pub leans_spec : {M : Type 1} → statement M
leans_spec = tie.close (tie.spec returns returns_2 returns_3)
