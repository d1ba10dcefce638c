-- The bytes of answers: coordinates and counts, owner sets, sides.
use Rattle.std.specs.Prelude.{List, ◌++◌, ℕ, ℤ}
use Rattle.std.specs.Int.{w32}
use Rattle.std.proofs.Common.{of_z}
use Rattle.plane.specs.Points.{Point, Edge}
use Rattle.lent_little.specs.Ordered.{bytes}

-- A number as a little-endian i32.
abbrev pub i32 : ℤ → List ℕ
i32 z = bytes 4 (of_z w32 z)

-- An owner set as a little-endian u64.
abbrev pub set_bytes : ℕ → List ℕ
set_bytes x = bytes 8 x

-- A side uv: ux, uy, vx, vy as little-endian i32.
abbrev pub point_bytes : Point → List ℕ
point_bytes p = i32 p.x ++ i32 p.y

abbrev pub side_bytes : Edge → List ℕ
side_bytes e = point_bytes e.from ++ point_bytes e.to
