-- The remembered point is the definition's.
use Rattle.std.proofs.Common.{◌∙◌, sym, eq-eqb, ne_eqb}
use Rattle.sheet.proofs.differs.Goals as goal

pub returns-then-x-begun : goal.returns-then-x-begun
returns-then-x-begun c = λ t out numbers h. let n = c.noted-begun.ensures.1 t out numbers h in
    rw (eq-eqb _ _ c.if-c-ne1.false, ne_eqb _ _ c.if-x-begun.true, ne_eqb _ _ (λ e. c.if-x-begun.true (e ∙ sym n.x)))

pub returns-else-x-begun : goal.returns-else-x-begun
returns-else-x-begun c = λ t out numbers h. let n = c.noted-begun.ensures.1 t out numbers h in
    rw (eq-eqb _ _ c.if-c-ne1.false, eq-eqb _ _ (c.if-x-begun.false ∙ n.x), ← n.y)
