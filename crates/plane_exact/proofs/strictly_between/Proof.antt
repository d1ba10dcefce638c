-- `plane_exact::strictly_between` meets its contract: the two tests are those of the definition. Assumes nothing.
use mathlib.Core.Path.{sym, ◌∙◌, ap, ap₂}
use lib.IntN.{pos, ◌+ℤ◌, ◌*ℤ◌}
use lib.Signed.{lt_z}
use mir.Syntax.{w64}
use mir.Val.{to_z, of_z}
use borrow.Author.Rules.{rules}
use Rattle.whole.proofs.Bound.{returned}
use Rattle.plane.specs.Points.{◌⟶◌, onward}
use Rattle.plane.specs.Keys.{point}
use Rattle.plane.proofs.Points.{between_on, between_off}
use Rattle.plane_exact.proofs.strictly_between.Statement.{statement}
use Rattle.plane_exact.proofs.strictly_between.Tie as tie

double_area_requires : tie.Need-double_area-requires
double_area_requires c κs = search rules

returns : tie.Need-returns-then-double_area-ne0
returns c =
    let a = c.args in
    sym (between_off (point a.c) (point a.p ⟶ point a.q) (λ e. c.if-double_area-ne0.true (ap (of_z w64) (c.double_area.ensures ∙ e))))

way_requires : tie.Need-way-requires
way_requires c κs = search rules

way_requires_2 : tie.Need-way-requires-2
way_requires_2 c κs = search rules

way_requires_3 : tie.Need-way-requires-3
way_requires_3 c κs = search rules

way_requires_4 : tie.Need-way-requires-4
way_requires_4 c κs = search rules

products_requires : tie.Need-products-requires
products_requires c κs = search rules

returns_2 : tie.Need-returns
unfolding onward
returns_2 c =
    let c₄ = c.before in
    let c₃ = c₄.before in
    let c₂ = c₃.before in
    let c₁ = c₂.before in
    let b = c₁.before in
    let d = b in
    let a = d.args in
    ap (lt_z (pos 0)) (returned _ c.products.type_inv ∙ c.products.ensures
    ∙ ap₂ ◌+ℤ◌
    (ap₂ ◌*ℤ◌ (returned _ c₁.way.type_inv ∙ c₁.way.ensures.0) (returned _ c₂.way-2.type_inv ∙ c₂.way-2.ensures.0))
    (ap₂ ◌*ℤ◌ (returned _ c₃.way-3.type_inv ∙ c₃.way-3.ensures.0) (returned _ c₄.way-4.type_inv ∙ c₄.way-4.ensures.0)))
    ∙ sym (between_on (point a.c) (point a.p ⟶ point a.q) (sym d.double_area.ensures ∙ sym (returned _ d.double_area.type_inv) ∙ ap (to_z w64) b.if-double_area-ne0.false))

pub strictly_between_spec : {M : Type 1} → statement M
strictly_between_spec =
    tie.close
    (tie.spec
    double_area_requires
    returns
    way_requires
    way_requires_2
    way_requires_3
    way_requires_4
    products_requires
    returns_2)
