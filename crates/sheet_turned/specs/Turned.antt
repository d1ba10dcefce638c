-- A sheet of the older edition is read with its rings turned: the first ring of each polygon if its own double area is negative, every later ring if positive.
use Rattle.std.specs.Prelude.{map}
use Rattle.plane_rings.specs.Turning.{turn_member}
use Rattle.sheet_form.specs.Numbers.{Sheet}

-- The sheet with the rings of its polygons turned. Table pieces are never turned.
abbrev pub turned : Sheet → Sheet
turned n = record { table = n.table; polygons = map turn_member n.polygons }
