-- What the promises on points speak of: the point's triangle, and the points of the frame.
use Rattle.std.specs.Prelude.{ℕ, ◌≤◌, ◌≡◌, List, T, length}
use Rattle.plane.specs.Points.{Point, Triangle}
use Rattle.plane_winding.specs.Winding.{belongs}
use Rattle.table.specs.Table.{corners, frame_of}
use Rattle.table_points.specs.Points.{in_frame}
use Rattle.demands.specs.Triangles.{triangle}

-- The point belongs to triangle k of the table, counted from 1, and to no other.
pub record OnlyTriangle (table : List Triangle) (z : Point) (k : ℕ) : Type 0 where
  pub low : 1 ≤ k
  pub high : k ≤ length table
  pub there : T (belongs z (triangle table k))
  pub only : (j : ℕ) → 1 ≤ j → j ≤ length table → T (belongs z (triangle table j)) → j ≡ k

-- The point is from the least x and y of the table's frame up to but not including the greatest.
abbrev pub InFrame : List Triangle → Point → Type 0
InFrame table z = T (in_frame z (frame_of (corners table)))
