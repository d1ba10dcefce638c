-- Turning rings round: the first ring of each polygon if its own double area is negative, every later ring if positive. A ring of double area 0 stays.
use Rattle.std.specs.Prelude.{Bool, cond, [], ◌∷◌, map, reverse, pos}
use Rattle.std.specs.Int.Signed.{lt_z}
use Rattle.plane.specs.Members.{Ring, Polygon, Member}
use Rattle.plane_rings.specs.Rings.{ring_area}

-- A ring's double area is negative, or positive.
abbrev pub negative : Ring → Bool
negative r = lt_z (ring_area r) (pos 0)

abbrev pub positive : Ring → Bool
positive r = lt_z (pos 0) (ring_area r)

-- A first ring is turned round if its double area is negative. A turned ring has its points in reverse order.
unfoldable pub outward : Ring → Ring
outward r = cond (negative r) (reverse r) r

-- A later ring is turned round if its double area is positive.
unfoldable pub inward : Ring → Ring
inward r = cond (positive r) (reverse r) r

-- The rings of a polygon as they are turned, and those of each polygon of a member.
abbrev pub turn_polygon : Polygon → Polygon
turn_polygon [] = []
turn_polygon (r ∷ rs) = outward r ∷ map inward rs

abbrev pub turn_member : Member → Member
turn_member = map turn_polygon
