-- Each return is a case of the definition.
use Rattle.std.proofs.Common.{arith, eq-eqb, ne_eqb}
use mathlib.Core.Bool.{and-false}
use Rattle.sheet.specs.Reading.{pointing}
use Rattle.sheet.proofs.pointing.Goals as goal
use Rattle.sheet.proofs.pointing.Goals.{then-c-ne1-via-then-c-ne1, then-c-ne1-via-else-c-ne1+then-c-ne1-2, then-c-ne0-via-then-c-ne0, then-c-ne0-via-else-c-ne0+then-c-ne0-2}

pub returns-then-c-ne1 : goal.returns-then-c-ne1
unfolding pointing
returns-then-c-ne1 c =
    let n = c.noted-more.ensures in
    let p = c.push_both.ensures in (
      omega (arith, p.0, n.0),
      λ t out h.
          elim c.then-c-ne1.branch [
            | then-c-ne1-via-then-c-ne1 w ↦ rw (ne_eqb _ _ w.if-c-ne1.true) (p.1 _ out (n.1 t out _ h))
            | then-c-ne1-via-else-c-ne1+then-c-ne1-2 w ↦ rw (eq-eqb _ _ w.if-c-ne1.false, ne_eqb _ _ w.if-c-ne1-2.true, and-false) (p.1 _ out (n.1 t out _ h))
          ],
    )

pub returns-then-c-ne0 : goal.returns-then-c-ne0
unfolding pointing
returns-then-c-ne0 c =
    let n = c.noted-more.ensures in (
      omega (arith, n.0),
      λ t out h.
          elim c.then-c-ne0.branch [
            | then-c-ne0-via-then-c-ne0 w ↦ rw (eq-eqb _ _ c.if-c-ne1.false, eq-eqb _ _ c.if-c-ne1-2.false, ne_eqb _ _ w.if-c-ne0.true) (n.1 t out _ h)
            | then-c-ne0-via-else-c-ne0+then-c-ne0-2 w ↦
                rw (eq-eqb _ _ c.if-c-ne1.false, eq-eqb _ _ c.if-c-ne1-2.false, eq-eqb _ _ w.if-c-ne0.false, ne_eqb _ _ w.if-c-ne0-2.true) (n.1 t out _ h)
          ],
    )

pub returns : goal.returns
unfolding pointing
returns c =
    let n = c.noted-more.ensures in
    let p = c.push.ensures in
    (omega (arith, p.0, n.0), λ t out h. rw (eq-eqb _ _ c.if-c-ne1.false, eq-eqb _ _ c.if-c-ne1-2.false, eq-eqb _ _ c.if-c-ne0.false, eq-eqb _ _ c.if-c-ne0-2.false) (p.1 _ out (n.1 t out _ h)))
