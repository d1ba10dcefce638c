-- `plane_exact::double_area` meets its contract: each way is exact, and the sum of the two products is the double area. Assumes nothing.
use mathlib.Core.Path.{◌∙◌, ap₂}
use lib.IntN.{◌+ℤ◌, ◌*ℤ◌}
use borrow.Author.Rules.{rules}
use Rattle.whole.proofs.Bound.{returned}
use Rattle.plane.specs.Keys.{point}
use Rattle.plane.proofs.Corners.{turn_products}
use Rattle.plane_exact.proofs.double_area.Statement.{statement}
use Rattle.plane_exact.proofs.double_area.Tie as tie

way_requires : tie.Need-way-requires
way_requires c κs = search rules

way_requires_2 : tie.Need-way-requires-2
way_requires_2 c κs = search rules

way_requires_3 : tie.Need-way-requires-3
way_requires_3 c κs = search rules

way_requires_4 : tie.Need-way-requires-4
way_requires_4 c κs = search rules

products_requires : tie.Need-products-requires
products_requires c κs = search rules

returns : tie.Need-returns
returns c =
    let c₄ = c.before in
    let c₃ = c₄.before in
    let c₂ = c₃.before in
    let c₁ = c₂ in
    let a = c₁.args in
    returned _ c.products.type_inv ∙ c.products.ensures
    ∙ ap₂ ◌+ℤ◌
    (ap₂ ◌*ℤ◌ (returned _ c₁.way.type_inv ∙ c₁.way.ensures.0) (returned _ c₂.way-2.type_inv ∙ c₂.way-2.ensures.0))
    (ap₂ ◌*ℤ◌ (returned _ c₃.way-3.type_inv ∙ c₃.way-3.ensures.0) (returned _ c₄.way-4.type_inv ∙ c₄.way-4.ensures.0))
    ∙ turn_products (point a.a) (point a.b) (point a.c)

pub double_area_spec : {M : Type 1} → statement M
double_area_spec = tie.close (tie.spec way_requires way_requires_2 way_requires_3 way_requires_4 products_requires returns)
