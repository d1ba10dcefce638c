-- A sheet as the code holds it, within the limits.
use Rattle.std.specs.Prelude.{◌≡◌, List, map, ℕ, ◌+◌, ◌≤◌, length}
use Rattle.whole.specs.Sums.{All}
use Rattle.plane.specs.Corners.{millimetres}
use Rattle.plane.specs.Keys.{Held}
use Rattle.plane.specs.Members.{member_edges}
use Rattle.sheet_form.specs.Numbers.{Sheet, numbers_of}

-- The sheet n as the code holds it, within the limits: its numbers, each held, of 2 to 1,024 triangles and at most so many members, the table
-- and its polygons, each of which has at most 4,096 edges.
pub record SheetHeld (limit : ℕ) (n : Sheet) (numbers : List ℕ) : Type 0 where
  pub is : map millimetres numbers ≡ numbers_of n
  pub held : All Held numbers
  pub some : 2 ≤ length n.table
  pub few : length n.table ≤ 1024
  pub few_polygons : length n.polygons + 1 ≤ limit
  pub few_edges : All (λ m. length (member_edges m) ≤ 4096) n.polygons
