-- `judged_sets::judge_in` meets its contract: the sets are emptied, then the polygons are judged. Assumes nothing.
use Rattle.std.proofs.Common.{sym, ◌∙◌, ap, subst, [], length}
use lib.ListN.{replicate}
use Rattle.judged_sets.specs.Owning.{held_sets, OneEach}
use Rattle.judged_sets.proofs.Standing.{polygons_stand}
use Rattle.judged_sets.proofs.judge_in.Goals as goal

pub polygons-requires : goal.polygons-requires
polygons-requires c =
    let a = c.args in
    let p = c.requires.0 in
    let s = c.requires.1 in
    let f = c.fill.ensures in (
      (p.0, p.1, p.2),
      s.1.held,
      (s.0.polygons, [], polygons_stand s.0 a.numbers.now (length a.sets.now) s.1 s.2),
      f.len ∙ p.3 ∙ sym p.2.each_label,
      f.after (λ y e. e) ∙ ap (λ k. replicate k 0) (sym f.len),
      c.requires.2,
      c.requires.3,
    )

-- What `polygons` comes to is what the polygons of a held sheet come to.
pub returns : goal.returns
returns c =
    let a = c.args in (
      subst (OneEach c.polygons.result) c.fill.ensures.len c.polygons.ensures.0,
      λ keys n x held t q s.
          c.polygons.ensures.1 keys n.polygons [] x q (polygons_stand n a.numbers.now (length a.sets.now) held (ap length (sym t) ∙ sym s))
          ∙ ap (λ t. held_sets t n.polygons) t,
    )
