-- The frame is that of the corners from i on.
use Rattle.std.proofs.Common.{◌≡◌, ℕ, ◌<◌, List, length, get_or, drop}
use Rattle.plane.specs.declared.Corner.{Corner}
use Rattle.plane.specs.Points.{Point}
use Rattle.plane.specs.Keys.{point}
use Rattle.table.specs.Table.{frame_of}
use Rattle.table_check.specs.Framing.{FrameInRange, frame_held}
use Rattle.table_check.proofs.frame_by.Given as goal

abbrev pub invariant-loop-i : goal.invariant-loop-i
invariant-loop-i g l = record {
  in_range : FrameInRange l.f;
  is : (s : List Point) (p : Point) → length s ≡ l.n → ((i : ℕ) (c : Corner) → i < l.n → goal.F-post g l.corner i c → point c ≡ get_or s i p) → frame_held l.f ≡ frame_of (drop l.i s);
}
