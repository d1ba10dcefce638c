-- The six numbers read are the coordinates of the triangle's corners. Assumes nothing.
use mathlib.Core.Path.{◌∙◌, ap₂}
use Rattle.plane_winding.specs.Winding.{belongs}
use Rattle.repair_point.proofs.Finding.{read_back, six_held}
use Rattle.repair_point.proofs.belongs_to.Goals as goal

pub returns : goal.returns
returns c =
    let a = c.args in
    c.belongs.ensures ∙ ap₂ belongs (read_back a.x a.y c.ranges.x c.ranges.y) (six_held a.table.now a.t)
