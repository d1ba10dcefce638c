-- The remaining depth falls: a geometry reads a collection at one level fewer, and a collection its geometries at its own.
use Rattle.std.proofs.Common.{◌≡◌, ◌+◌, ◌-◌, ◌*◌, ◌≤◌}
use Rattle.sheet.specs.Going.{Within}
use Rattle.sheet.specs.Behind.{counts, behind_all, Row}
use Rattle.sheet.proofs.Onward.{Trail}
use Rattle.sheet.proofs.+collection_geometry.Given as goal

abbrev pub decreases-collection : goal.decreases-collection
decreases-collection l = 2 * l.depth + 1

abbrev pub decreases-geometry : goal.decreases-geometry
decreases-geometry l = 2 * l.depth

-- The steps from the beginning have reached where the loop stands, and the geometries that are left stand in a row from there.
abbrev pub invariant-collection-loop : goal.invariant-collection-loop
invariant-collection-loop l =
    Within l.s l.reached.place l.reached.build × (l.fn.from.at ≤ l.reached.place.at) × Trail l.s l.fn.from l.fn.had l.fn.numbers l.reached.place l.reached.build l.numbers
    × Row (l.n - l.counter) l.depth l.reached.place × (counts (behind_all (l.n - l.counter) l.reached.place) ≡ counts (behind_all l.n l.fn.from))
