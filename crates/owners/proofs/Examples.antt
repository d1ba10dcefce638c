-- The starred examples, one table, one claim: by computation.
use mathlib.Core.Path.{◌≡◌, refl}
use mathlib.Core.List.{map, flat_map}
use Rattle.whole.specs.Numbers.{smaller, greater}
use Rattle.whole.specs.Sums.{net}
use Rattle.plane.specs.Points.{turn, cross, onward, between}
use Rattle.plane.specs.Cuts.{halves, cut, pieces}
use Rattle.plane.specs.Boundaries.{agree}
use Rattle.table.specs.Table.{least, greatest, frame_of, check_table}
use Rattle.owners.specs.Judging.{judge}
use Rattle.owners.specs.Examples.{answer, examples, answers}

pub starred : map answer examples ≡ answers
unfolding flat_map smaller greater net turn cross onward between halves cut pieces agree least greatest frame_of check_table judge
starred = refl
