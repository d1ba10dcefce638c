-- The next edge is trimmed: its loose pieces come to the open ones, and what is left of it to the others. Behind the last edge, a piece that is open is a stray one.
use Rattle.std.proofs.Common.{sym, ◌∙◌, length, take, length-append, arith}
use Rattle.plane.specs.Keys.{pairs}
use Rattle.table_trim.proofs.Stepped.{stepped, ended}
use Rattle.table_trim.proofs.Trims.{trimmed_put, trimmed_astray, some_pair}
use Rattle.table_trim.proofs.trim_all.Goals as goal

pub loop-p-preserved : goal.loop-p-preserved
loop-p-preserved c =
    let a = c.args in
    let l = c.loop-p in
    let i = length l.yielded in
    let s = c.in-Some.ensures.steps in
    let p = stepped a.from.now _ i _ (sym l.invariant.rest_from ∙ s.0) in
    let q = stepped a.to.now _ i _ (sym l.invariant.rest_to ∙ s.1) in
    let few = c.requires.2.few in
    rw length-append (record {
      rest_from = p.2;
      rest_to = q.2;
      within = omega arith;
      few = omega (arith, c.put-m.ensures.0);
      few_open = omega (arith, c.come-n.ensures.0, c.come-n-in-loop-p.ensures.0);
      trimmed = trimmed_put a.corners.now a.from.now a.to.now i p.0 q.0 (omega arith) _ _ _ _ _ _ _ l.invariant.trimmed (rw (p.1, q.1) at c.left-rest.ensures) (rw p.1 at c.come-n.ensures.1) (rw q.1 at c.come-n-in-loop-p.ensures.1) _ _ c.put-m.ensures.1 c.put-m.ensures.2;
    })

pub returns-else-n-eq0 : goal.returns-else-n-eq0
returns-else-n-eq0 c =
    let a = c.args in
    let l = c.loop-p in
    let i = length l.yielded in
    let e = ended a.from.now a.to.now l.p-iterator.a.rest.now l.p-iterator.b.rest.now i _ _ c.requires.2.as_many l.invariant.rest_from l.invariant.rest_to c.in-None.ensures.steps in
    let o = some_pair l.n l.us l.vs (omega (arith, c.if-n-eq0.false)) (omega (arith, l.invariant.few_open)) (omega (arith, l.invariant.few_open)) in
    trimmed_astray a.corners.now a.from.now a.to.now (take l.m l.fs) (take l.m l.ts) i (pairs (take l.n l.us) (take l.n l.vs)) c.requires.2.as_many e l.invariant.trimmed o.0 o.1
