-- `table_check::frame_of` meets its contract: the corner of a place is that of its number. Assumes nothing.
use Rattle.std.proofs.Common.{◌≡◌, sym, ◌∙◌, ap, get_or, rules}
use lib.ListN.{length-map, get_or-map}
use Rattle.plane.specs.Keys.{point, corner_of, point_at, points_at}
use Rattle.table_check.proofs.frame_of.Goals as goal

pub returns : goal.returns
unfolding point_at
returns c =
    let keys = c.args.keys.now in
    let is = c.frame_by.ensures.is (points_at keys) (point_at 0) (length-map keys point_at) (λ i x h e. let at : x ≡ corner_of (get_or keys i 0) = search rules in ap point at ∙ sym (get_or-map point_at keys i 0)) in
    (c.frame_by.ensures.in_range, is)
