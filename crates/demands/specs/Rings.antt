-- What the promises on closed rings speak of: the side that follows, and a ring as a closed way.
use Rattle.std.specs.Prelude.{◌≡◌, List, ◌≤◌, T, length}
use Rattle.whole.specs.Sums.{Among, count}
use Rattle.plane.specs.Points.{Edge, same_edge}
use Rattle.plane.specs.Members.{edges}
use Rattle.plane_rings.specs.Closed.{Closed}
use Rattle.plane_turning.specs.Turning.{sharper}
use Rattle.repair_rings.specs.Rings.{points_of}

-- Of the sides of a list d is the sharpest turn to the right from e: it leaves where e ends, and none that leaves there is sharper, measured from e.
pub record Sharpest (l : List Edge) (e d : Edge) : Type 0 where
  pub listed : Among same_edge d l
  pub leaves : d.from ≡ e.to
  pub none_sharper : (c : Edge) → Among same_edge c l → c.from ≡ e.to → T (sharper e.from e.to c.to d.to) → ⊥

-- A ring of sides is a closed way: it has at least three, none twice, each is the way from one of its points to the next, and the last point is the first.
pub record ClosedWay (r : List Edge) : Type 0 where
  pub three : 3 ≤ length r
  pub none_twice : (e : Edge) → count same_edge e r ≤ 1
  pub joined : edges (points_of r) ≡ r
  pub closed : Closed (points_of r)
