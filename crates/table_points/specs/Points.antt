-- What is at a point: the triangle of a table that it belongs to, and the points of the frame.
use Rattle.std.specs.Prelude.{Bool, ◌&&◌, List, [], ℕ}
use Rattle.std.proofs.Math.Option.{Option}
use Rattle.std.specs.Int.Signed.{le_z, lt_z}
use Rattle.plane.specs.Points.{Point, Triangle}
use Rattle.plane_winding.specs.Winding.{belongs}
use Rattle.table.specs.Table.{Frame, first_fault}

-- The number, counted from 1, of the first triangle that the point belongs to. (In a table that passes the rules it is the only one.)
abbrev pub triangle_of : Point → List Triangle → Option ℕ
triangle_of z table = first_fault (λ before t. belongs z t) [] table

-- The point is from the frame's least x and y up to but not including the greatest.
abbrev pub in_frame : Point → Frame → Bool
in_frame z f = le_z f.left z.x && lt_z z.x f.right && le_z f.low z.y && lt_z z.y f.high
