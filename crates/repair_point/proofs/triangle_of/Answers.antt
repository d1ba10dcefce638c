-- The point is found in the first triangle that it belongs to, or in none. Assumes nothing.
use Rattle.std.proofs.Common.{arith, ◌∙◌, sym, below_more}
use Rattle.repair_point.proofs.Finding.{bits, found_point, found, nowhere}
use Rattle.repair_point.proofs.triangle_of.Goals as goal

pub returns-then-belongs_to-clause-first : goal.returns-then-belongs_to-clause-first
returns-then-belongs_to-clause-first c =
    let a = c.args in
    let l = c.loop-t in
    found_point a.x a.y c.ranges.x c.ranges.y a.table.now a.n
    (found (bits a.x a.y) a.table.now a.n l.t (omega arith) (sym c.belongs_to.ensures ∙ c.if-belongs_to.true) l.invariant)

pub loop-t-preserved : goal.loop-t-preserved
loop-t-preserved c = below_more _ _ c.loop-t.invariant (sym c.belongs_to.ensures ∙ c.if-belongs_to.false)

pub returns-clause-first : goal.returns-clause-first
returns-clause-first c =
    let a = c.args in
    found_point a.x a.y c.ranges.x c.ranges.y a.table.now a.n (nowhere (bits a.x a.y) a.table.now a.n (λ u h. c.loop-t.invariant u (omega arith)))
