-- A corner of the table off the bytes of a sheet's numbers form: the triangle count stands first, then x and y of each corner as little-endian i32.
use Rattle.std.specs.Prelude.{true, List, ℕ, ◌+◌, ◌*◌, ◌≤◌, length}
use Rattle.std.specs.Int.{w32}
use Rattle.std.proofs.Common.{to_z}
use Rattle.whole.specs.Numbers.{Within}
use Rattle.plane.specs.Points.{Point}
use Rattle.lent_little.specs.Ordered.{word_at}

-- The point of corner i, counted from 0.
abbrev pub point_in : List ℕ → ℕ → Point
point_in form i = record { x = to_z w32 (word_at true form (8 * i + 4)); y = to_z w32 (word_at true form (8 * i + 8)) }

-- Its bytes are there, and its coordinates are in range.
pub record CornerIn (form : List ℕ) (i : ℕ) : Type 0 where
  pub there : 8 * i + 12 ≤ length form
  pub x : Within 10_000_000 (point_in form i).x
  pub y : Within 10_000_000 (point_in form i).y
