-- `judged_sets::polygons` meets its contract: one polygon more is judged and marked, or refuses all. Assumes nothing.
use Rattle.std.proofs.Common.{◌≡◌, sym, ◌∙◌, ap, subst, List, ℕ, length, Bool, arith}
use lib.ListN.{replicate}
use lib.Seq.{take_all}
use Rattle.std.proofs.lemmas.Result.{err_from_is_err_and}
use Rattle.lent.specs.Stages.{value}
use Rattle.table.specs.Sides.{triangles_of}
use Rattle.owners_judge.specs.Preparing.{WorkLists}
use Rattle.judged_sets.proofs.Following.{Following, polygons_count, following_none, following_marks, following_next, following_refused, following_more, following_done}
use Rattle.judged_sets.proofs.polygons.Goals as goal

-- Work lists that are as long as others serve for the same table.
kept : {keys counts touched group counts' touched' group' : List ℕ} {labels labels' : List Bool} → length counts' ≡ length counts → length touched' ≡ length touched → length labels' ≡ length labels → length group' ≡ length group
    → WorkLists keys counts touched labels group → WorkLists keys counts' touched' labels' group'
kept a b c d q = record { each_count = a ∙ q.each_count; each_side = b ∙ q.each_side; each_label = c ∙ q.each_label; each_place = d ∙ q.each_place }

pub loop-k-init : goal.loop-k-init
loop-k-init c = let p = c.requires in λ keys ms rest w q s. following_none s (p.4 ∙ ap (λ j. replicate j 0) (p.3 ∙ q.each_label))

pub judge_at-requires : goal.judge_at-requires
judge_at-requires c =
    let p = c.requires in
    let l = c.loop-k in
    let a = l.auto in (
      (p.0.0, p.0.1, kept a.counts a.touched a.labels a.group p.0.2),
      p.1,
      following_next (l.invariant p.0.0 p.2.0 p.2.1 p.0.1 p.0.2 p.2.2) (omega (arith, c.loop-k-test.true, (polygons_count p.2.2).1)),
      λ k h half. omega (arith, p.5 k h half, a.from),
      λ k h half. omega (arith, p.6 k h half, a.to),
    )

pub returns-in_err-at : goal.returns-in_err-at
returns-in_err-at c =
    let l = c.loop-k in
    let a = l.auto in
    let x = err_from_is_err_and c.from_residual.result c.from_residual.ensures.1 in
    rw (x.1, x.2) (
      tt,
      λ keys ms rest w q s.
          following_refused (l.invariant keys ms rest w q s) (omega (arith, c.loop-k-test.true, (polygons_count s).1))
          (λ m b. c.in_err-at.ensures keys m b w (kept a.counts a.touched a.labels a.group q)),
    )

pub mark-requires : goal.mark-requires
mark-requires c =
    let p = c.requires in
    let l = c.loop-k in
    let x = following_marks (l.invariant p.0.0 p.2.0 p.2.1 p.0.1 p.0.2 p.2.2) in
    (c.judge_at.auto.labels ∙ l.auto.labels ∙ p.0.2.each_label ∙ sym x.0, omega (arith, c.loop-k-test.true, (polygons_count p.2.2).1, p.2.2.many), x.1)

pub loop-k-preserved : goal.loop-k-preserved
loop-k-preserved c = λ keys ms rest w q s.
    let l = c.loop-k in
    let a = l.auto in
    subst (Following (triangles_of keys) _ ms rest _ _) (sym c.mark.ensures.0)
    (following_more (l.invariant keys ms rest w q s) (omega (arith, c.loop-k-test.true, (polygons_count s).1))
    (λ m b. c.in_ok-at.ensures keys m b w (kept a.counts a.touched a.labels a.group q)) (c.judge_at.auto.labels ∙ a.labels ∙ q.each_label))

pub returns : goal.returns
returns c =
    let l = c.loop-k in (
      l.auto.sets,
      λ keys ms rest w q s. ap value (take_all (length l.sets) l.sets (omega arith)) ∙ following_done (l.invariant keys ms rest w q s) (omega (arith, c.loop-k-test.false, (polygons_count s).1)),
    )
