-- A table made ready to be looked up: its corners in order, its sides, and the side across each side.
use Rattle.std.specs.Prelude.{◌≡◌, ◌↔◌, List, ℕ, ◌*◌, length}
use Rattle.whole.specs.Sums.{Among}
use Rattle.plane.specs.Points.{Point, same_point}
use Rattle.plane.specs.Boundaries.{sides_of}
use Rattle.plane.specs.Keys.{points_at}
use Rattle.table.specs.Table.{corners, RuleB}
use Rattle.table.specs.Sides.{triangles_of}
use Rattle.table.specs.Opposites.{opposites}
use Rattle.table_count.specs.Counting.{Looked}

-- The table whose triangles have these corners: its corners in order and its sides are looked up, and the side across each side is known.
pub record Indexed (keys ordered index opposite : List ℕ) : Type 0 where
  pub n : ℕ
  pub three : length keys ≡ 3 * n
  pub once : RuleB (triangles_of keys)
  pub looked : Looked (sides_of (triangles_of keys)) ordered index
  pub corners_are : (c : Point) → Among same_point c (points_at ordered) ↔ Among same_point c (corners (triangles_of keys))
  pub opposite_is : opposite ≡ opposites (sides_of (triangles_of keys))
