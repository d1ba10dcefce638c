-- The frame as the code holds it.
use Rattle.whole.specs.Numbers.{smaller, greater}
use Rattle.plane.specs.Points.{Point}
use Rattle.plane.specs.Corners.{millimetres}
use Rattle.plane.specs.Keys.{Held}
use Rattle.table.specs.Table.{Frame}
use Rattle.table_check.specs.declared.Frame.{Frame as FrameCode}

-- The frame that four held bounds stand for.
abbrev pub frame_held : FrameCode → Frame
frame_held f = record { left = millimetres f.left; low = millimetres f.low; right = millimetres f.right; high = millimetres f.high }

-- Its bounds are coordinates from -10,000,000 to 10,000,000.
pub record FrameInRange (f : FrameCode) : Type 0 where
  pub left : Held f.left
  pub low : Held f.low
  pub right : Held f.right
  pub high : Held f.high

-- The smallest upright rectangle that holds the frame and one point more.
abbrev pub wider : Point → Frame → Frame
wider p f = record { left = smaller p.x f.left; low = smaller p.y f.low; right = greater p.x f.right; high = greater p.y f.high }
