-- `table_check::flat_triangle` meets its contract: the triangles before the first flat one are passed by. Assumes nothing.
use Rattle.std.proofs.Common.{◌≡◌, sym, ◌∙◌, ap, true, false, [], ◌+◌, ◌<◌, ℤ, pos, arith, w64, to_z, of_z}
use native.Mathlib.Numerals.{add-one}
use lib.Signed.{lt_z, le_z, mag}
use Rattle.whole.proofs.Bound.{returned}
use Rattle.table.specs.Table.{flat}
use Rattle.table.specs.Sides.{triangles_of}
use Rattle.table.proofs.Faults.{not_above, is_above, above_none, above_more, flat_here, all_above, fault_is, fault_none}
use Rattle.table_check.proofs.flat_triangle.Goals as goal

pub loop-t-init : goal.loop-t-init
loop-t-init c = above_none _

-- What the test of the code tells of the area, which is held as it is.
module _ (z : ℤ) {area : ℤ} (held : mag z < 9_223_372_036_854_775_808) (is : z ≡ area) where
  tells : lt_z (pos 0) (to_z w64 (of_z w64 z)) ≡ lt_z (pos 0) area
  tells = ap (lt_z (pos 0)) (returned z held ∙ is)

  above : le_z (to_z w64 (of_z w64 z)) (pos 0) ≡ false → lt_z (pos 0) area ≡ true
  above e = sym tells ∙ is_above (to_z w64 (of_z w64 z)) e

  not_one : le_z (to_z w64 (of_z w64 z)) (pos 0) ≡ true → lt_z (pos 0) area ≡ false
  not_one e = sym tells ∙ not_above (to_z w64 (of_z w64 z)) e

pub loop-t-preserved : goal.loop-t-preserved
loop-t-preserved c = let t = c.loop-t.t in above_more _ t _ (add-one t) (omega arith) c.loop-t.invariant (above _ c.area_at.type_inv c.area_at.ensures c.if-area_at-le0.false)

pub returns-then-area_at-le0 : goal.returns-then-area_at-le0
returns-then-area_at-le0 c =
    let t = c.loop-t.t in
    sym (fault_is (t + 1) _ (omega arith) (add-one t ∙ flat_here _ t (omega arith) c.loop-t.invariant (not_one _ c.area_at.type_inv c.area_at.ensures c.if-area_at-le0.true)))

pub returns : goal.returns
returns c = sym (fault_none flat [] (triangles_of c.args.keys.now) (all_above _ c.loop-t.t (omega arith) c.loop-t.invariant))
