-- What is at a point, as the code comes to it: off the held numbers.
use Rattle.std.specs.Prelude.{List, map, ℕ, ◌+◌, ◌*◌}
use Rattle.plane.specs.Points.{Point, Triangle}
use Rattle.lent.specs.Stages.{and_then}
use Rattle.lent.specs.Answered.{Outcome}
use Rattle.table_points.specs.Points.{triangle_of}
use Rattle.repair_regions.specs.Regions.{from}
use Rattle.repair_longest.specs.Held.{point_held}
use Rattle.repair.specs.Ways.{repaired_by}
use Rattle.repair_point.specs.Point.{owner_there}

-- Triangle t of the table, counted from 0, and the first n, off the held numbers.
abbrev pub triangle_held : List ℕ → ℕ → Triangle
triangle_held table t = record { a = point_held table (3 * t); b = point_held table (3 * t + 1); c = point_held table (3 * t + 2) }

abbrev pub triangles_held : List ℕ → ℕ → List Triangle
triangles_held table n = map (triangle_held table) (from 0 n)

-- What is at the point after repair in a way.
abbrev pub point_outcome : Point → List Triangle → ℕ → List ℕ → List ℕ → List (List ℕ) → Outcome
point_outcome z table way lengths opposite owners = and_then (repaired_by way lengths opposite owners) (owner_there (triangle_of z table))
