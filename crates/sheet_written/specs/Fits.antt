-- The limits and the range of document 01 for a sheet in numbers, and that its rings are closed.
use Rattle.std.specs.Prelude.{Bool, ◌&&◌, ℕ, ◌+◌, ◌-◌, leb, ℤ, pos, nat_abs, length, get_or}
use Rattle.whole.specs.Sums.{every}
use Rattle.plane.specs.Points.{Point, Triangle, same_point}
use Rattle.plane.specs.Members.{Ring, Polygon, Member}
use Rattle.sheet_form.specs.Numbers.{Sheet}
use Rattle.sheet_standard.specs.Limits.{all_lengths}

-- A count is within its limits; a number is from -10,000,000 to 10,000,000.
abbrev pub from_to : ℕ → ℕ → ℕ → Bool
from_to low high n = leb low n && leb n high

abbrev pub in_range : ℤ → Bool
in_range z = leb (nat_abs z) 10_000_000

abbrev pub point_fits : Point → Bool
point_fits p = in_range p.x && in_range p.y

abbrev pub triangle_fits : Triangle → Bool
triangle_fits t = point_fits t.a && point_fits t.b && point_fits t.c

-- The last point of a ring is its first.
abbrev pub origin : Point
origin = record { x = pos 0; y = pos 0 }

abbrev pub closed : Ring → Bool
closed r = same_point (get_or r (length r - 1) origin) (get_or r 0 origin)

abbrev pub ring_fits : Ring → Bool
ring_fits r = from_to 4 4096 (length r) && every point_fits r && closed r

abbrev pub part_fits : Polygon → Bool
part_fits p = from_to 1 64 (length p) && every ring_fits p

abbrev pub member_fits : Member → Bool
member_fits m = from_to 1 64 (length m) && every part_fits m

-- 2 to 1,024 triangles, at most so many members, the table and the polygons, and at most 4,096 polygon points in the whole sheet.
unfoldable pub sheet_fits : ℕ → Sheet → Bool
sheet_fits limit n =
    from_to 2 1024 (length n.table) && every triangle_fits n.table && leb (length n.polygons + 1) limit && every member_fits n.polygons &&
    leb (all_lengths n.polygons) 4096
