-- The envelope: the least x, the greatest x, the least y and the greatest y, as doubles, and when it equals a frame as numbers.
use Rattle.std.specs.Prelude.{Bool, true, ◌&&◌, Option, None, Some, List, ℕ, ◌+◌, Float, ℤ}
use Rattle.std.specs.Float.{binary64}
use Rattle.std.specs.Float.Ieee.{eq, of_int}
use Rattle.lent_little.specs.Ordered.{double_at}
use Rattle.table.specs.Table.{Frame}
use Rattle.sheet_coordinate.specs.Coordinate.{Equals}
use Rattle.sheet_envelope.specs.declared.Envelope.{Envelope}

-- The four doubles that stand at a place, one behind the other, 8 bytes each.
abbrev pub envelope_at : Bool → List ℕ → ℕ → Envelope
envelope_at little s at = record {
  left = double_at little s at;
  right = double_at little s (at + 8);
  low = double_at little s (at + 16);
  high = double_at little s (at + 24);
}

-- The envelope of a frame: each bound as the double that equals it.
abbrev pub around : Frame → Envelope
around f = record {
  left = of_int binary64 f.left;
  right = of_int binary64 f.right;
  low = of_int binary64 f.low;
  high = of_int binary64 f.high;
}

-- A double equals a whole number, as IEEE 754 compares: -0 equals 0, a NaN equals nothing.
abbrev pub equals : Float → ℤ → Bool
equals x n = eq x (of_int binary64 n)

-- The envelope equals the frame, number by number.
unfoldable pub same_frame : Envelope → Frame → Bool
same_frame e f = equals e.left f.left && equals e.right f.right && equals e.low f.low && equals e.high f.high

-- That is: each double equals its bound.
pub record Same (e : Envelope) (f : Frame) : Type 0 where
  pub left : Equals e.left f.left
  pub right : Equals e.right f.right
  pub low : Equals e.low f.low
  pub high : Equals e.high f.high

-- The envelope equals the frame where there is one.
abbrev pub agrees : Option Envelope → Frame → Bool
agrees None f = true
agrees (Some e) f = same_frame e f
