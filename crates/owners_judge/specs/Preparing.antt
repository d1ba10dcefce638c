-- What is found once for a table, so that its polygons can be judged, and the work lists that each polygon is judged in.
use Rattle.std.specs.Prelude.{◌≡◌, Bool, List, ℕ, length}
use Rattle.table.specs.Table.{RuleA}
use Rattle.table.specs.Sides.{triangles_of}
use Rattle.table_count.specs.Indexed.{Indexed}

-- The table can be looked up, and rule A holds too.
pub record Prepared (keys ordered index opposite : List ℕ) : Type 0 where
  pub indexed : Indexed keys ordered index opposite
  pub areas : RuleA (triangles_of keys)

-- A count and a place in a list for each side; a label and a place in a group for each triangle.
pub record WorkLists (keys counts touched : List ℕ) (labels : List Bool) (group : List ℕ) : Type 0 where
  pub each_count : length counts ≡ length keys
  pub each_side : length touched ≡ length keys
  pub each_label : length labels ≡ length (triangles_of keys)
  pub each_place : length group ≡ length (triangles_of keys)
