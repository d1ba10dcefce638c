-- The length of an edge: the largest whole number whose square is at most dx² + dy².
use Rattle.std.specs.Prelude.{List, map, ℕ, ◌+◌, ◌*◌, nat_abs, ◌-ℤ◌}
use Rattle.whole_root.specs.Root.{root}
use Rattle.plane.specs.Points.{Edge, Triangle}
use Rattle.plane.specs.Boundaries.{sides_of}

-- How far the ends of an edge are apart in x, and in y.
abbrev pub dx : Edge → ℕ
dx e = nat_abs (e.to.x -ℤ e.from.x)

abbrev pub dy : Edge → ℕ
dy e = nat_abs (e.to.y -ℤ e.from.y)

unfoldable pub length_of : Edge → ℕ
length_of e = root (dx e * dx e + dy e * dy e)

-- The lengths of all sides of a table, by triangle and then ab, bc, ca.
abbrev pub lengths_of : List Triangle → List ℕ
lengths_of table = map length_of (sides_of table)
