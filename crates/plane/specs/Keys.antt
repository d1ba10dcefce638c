-- Corners as the code holds them, and as one number each, so that the order of the numbers is the order of the corners by x, then by y.
use Rattle.std.specs.Prelude.{List, [], ◌∷◌, map, ℕ, ◌+◌, ◌*◌, ◌/◌, ◌%◌, ◌^◌, ◌≤◌, get_or}
use Rattle.plane.specs.declared.Corner.{Corner}
use Rattle.plane.specs.Points.{Point, Edge, ◌⟶◌, Triangle}
use Rattle.plane.specs.Corners.{millimetres}

-- The point that a held corner stands for.
abbrev pub point : Corner → Point
point c = record { x = millimetres c.x; y = millimetres c.y }

-- The held number of a coordinate from -10,000,000 to 10,000,000.
abbrev pub Held : ℕ → Type 0
Held n = n ≤ 20_000_000

-- A corner with such coordinates.
pub record InRange (c : Corner) : Type 0 where
  pub x : Held c.x
  pub y : Held c.y

-- A corner's number: its first coordinate, as it is held, times 2^32, and its second.
abbrev pub key_of : Corner → ℕ
key_of c = c.x * 2 ^ 32 + c.y

-- The corner, and the point, of a number.
abbrev pub corner_of : ℕ → Corner
corner_of k = record { x = k / 2 ^ 32; y = k % 2 ^ 32 }

unfoldable pub point_at : ℕ → Point
point_at k = point (corner_of k)

-- The number of a corner with coordinates from -10,000,000 to 10,000,000.
abbrev pub Key : ℕ → Type 0
Key k = InRange (corner_of k)

-- The ordered pair of two corners.
abbrev pub pair : ℕ → ℕ → Edge
pair u v = point_at u ⟶ point_at v

-- The triangle of number t, counted from 0, off the numbers of the corners, three for each triangle.
abbrev pub triangle_at : List ℕ → ℕ → Triangle
triangle_at keys t = record { a = point_at (get_or keys (3 * t) 0); b = point_at (get_or keys (3 * t + 1) 0); c = point_at (get_or keys (3 * t + 2) 0) }

-- The points of a list of numbers.
abbrev pub points_at : List ℕ → List Point
points_at = map point_at

-- The edges from the corners of one list to those of another, one by one.
abbrev pub pairs : List ℕ → List ℕ → List Edge
pairs [] l = []
pairs (u ∷ k) [] = []
pairs (u ∷ k) (v ∷ l) = pair u v ∷ pairs k l
