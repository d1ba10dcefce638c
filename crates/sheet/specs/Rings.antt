-- Reading on inside an open polygon: where steps lead that read a ring's count or a point.
use Rattle.std.specs.Prelude.{◌≡◌, Ok, List, ℕ, ◌+◌, ◌<◌}
use Rattle.wkb.specs.declared.Cursor.{Cursor}
use Rattle.sheet.specs.declared.Build.{Build}
use Rattle.sheet.specs.declared.Reached.{Reached}
use Rattle.sheet.specs.Going.{Follows}
use Rattle.sheet.specs.Behind.{counts, closed}

-- From c the steps lead to d: in the polygon, or behind it.
abbrev pub Nearer : Cursor → Cursor → Type 0
Nearer c d = (0 < d.rings + d.points → counts (closed d) ≡ counts (closed c)) × (d.rings + d.points ≡ 0 → counts d ≡ counts (closed c))

-- Reading from c, with what is shown at first, comes to what was reached, in the polygon or behind it, and to what is shown then.
abbrev pub Reaches : List ℕ → Cursor → Build → List ℕ → Reached → List ℕ → Type 0
Reaches s c b numbers r more = Follows s c b numbers c.at (Ok r) more × Nearer c r.place
