-- `judged_table::check` meets its contract: the corners are laid down, and the table is checked against their frame's edges. Assumes nothing.
use Rattle.std.proofs.Common.{◌≡◌, sym, ◌∙◌, ap, length}
use Rattle.plane.specs.Keys.{pairs}
use Rattle.table.specs.Table.{frame_edges, check_table}
use Rattle.table.specs.Sides.{triangles_of}
use Rattle.table_check.proofs.Framing.{frame_edges_lem}
use Rattle.sheet_form.specs.Numbers.{counted, member_numbers}
use Rattle.judged_table.proofs.check.Goals as goal

pub corners-requires : goal.corners-requires
corners-requires c = let p = c.requires.0 in (p.2.held, (p.1.table, counted member_numbers p.1.polygons, p.2.is, sym p.3))

pub check_table-requires : goal.check_table-requires
check_table-requires c =
    let k = c.corners.ensures in
    let p = c.requires.0 in
    let l = c.requires.1 in (
      (length p.1.table, record { in_range = k.1; three = k.2 ∙ sym p.3; few = p.2.few }),
      c.outline.ensures.1,
      l.ordered ∙ sym k.2,
      l.index ∙ sym k.2,
      l.opposite ∙ sym k.2,
    )

pub returns : goal.returns
returns c = λ limit n held e.
    let k = c.corners.ensures in
    let keys = c.corners.new.keys in
    let p = c.requires.0 in
    let r = c.check_table.ensures in
    let laid : triangles_of keys ≡ n.table = k.0 n.table (counted member_numbers n.polygons) held.is (sym e) in
    let framed : pairs c.outline.new.from c.outline.new.to ≡ frame_edges (triangles_of keys) = c.outline.ensures.0 ∙ frame_edges_lem keys (length p.1.table) (k.2 ∙ sym p.3) c.frame_of-frame.result c.frame_of-frame.ensures.1 in
    record { laid = laid; is = r.is ∙ ap (λ l. check_table l (triangles_of keys)) framed ∙ ap (λ t. check_table (frame_edges t) t) laid; indexed = r.indexed }
