-- Each return is a case of the definition, by what was judged of x and then of y.
use Rattle.std.proofs.Common.{sym, refl, ◌∙◌}
use Rattle.sheet.specs.Reading.{judged}
use Rattle.sheet.proofs.judged.Goals as goal

pub returns-in_default : goal.returns-in_default
unfolding judged
returns-in_default c = rw c.fault.ensures (tt, λ t out h. rw (sym c.judge.ensures ∙ c.in_default.is) (refl, refl, refl, h.laid_over))

pub returns-in_default-judge : goal.returns-in_default-judge
unfolding judged
returns-in_default-judge c =
    rw c.fault-in_default-judge.ensures (tt, λ t out h. rw (sym c.judge.ensures ∙ c.in-Some.is, sym c.judge-2.ensures ∙ c.in_default-judge.is) (refl, refl, refl, h.laid_over))

pub returns-then-differs : goal.returns-then-differs
unfolding judged
returns-then-differs c =
    rw c.fault-then-differs.ensures
    (tt, λ t out h. rw (sym c.judge.ensures ∙ c.in-Some.is, sym c.judge-2.ensures ∙ c.in-Some-judge.is, sym (c.differs.ensures t out _ h) ∙ c.if-differs.true) (refl, refl, refl, h.laid_over))

pub returns : goal.returns
unfolding judged
returns c = (
  (refl, c.pointing.ensures.0),
  λ t out h. rw (sym c.judge.ensures ∙ c.in-Some.is, sym c.judge-2.ensures ∙ c.in-Some-judge.is, sym (c.differs.ensures t out _ h) ∙ c.if-differs.false) (refl, c.pointing.ensures.1 t out h),
)
