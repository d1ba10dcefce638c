-- The double area is 0 exactly if the turn is.
use Rattle.std.proofs.Common.{◌≡◌, sym, ◌∙◌, ap, subst, T, eqb}
use lib.Dec.{eqb→eq}
use lib.IntN.{pos}
use mir.Syntax.{w64}
use mir.Val.{to_z, of_z}
use Rattle.whole.specs.Numbers.{eq_z}
use Rattle.whole.proofs.Bound.{returned}
use Rattle.whole.proofs.Int.{eq_z-eq}
use Rattle.whole.proofs.Sums.{bool_iff}
use Rattle.plane.specs.Points.{turn}
use Rattle.plane.specs.Keys.{point_at}
use Rattle.table_lines.specs.Lines.{lies}
use Rattle.table_lines.proofs.on_line.Goals as goal

pub returns : goal.returns
unfolding lies point_at
returns c =
    let x = c.args in
    let turned = turn (point_at x.a) (point_at x.c) (point_at x.b) in
    let is : c.double_area.result ≡ turned = c.double_area.ensures ∙ rw (c.corner_at.ensures, c.corner_at-2.ensures, c.corner_at-3.ensures) in
    bool_iff (eqb (of_z w64 c.double_area.result) 0) (eq_z turned (pos 0))
    (λ t. subst (λ z. T (eq_z z (pos 0))) (sym (sym is ∙ sym (returned _ c.double_area.type_inv) ∙ ap (to_z w64) (eqb→eq (of_z w64 c.double_area.result) 0 t))) tt)
    (λ t. subst (λ n. T (eqb n 0)) (sym (ap (of_z w64) (is ∙ eq_z-eq turned (pos 0) t))) tt)
