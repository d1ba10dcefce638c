-- A sheet with its rings turned: every first ring goes one way and every later one the other, a sheet that goes so stays, and turning twice is turning once.
-- Assumes nothing.
use mathlib.Core.Path.{◌≡◌, refl, ap, ap₂}
use mathlib.Core.List.{List, [], ◌∷◌, map}
use Rattle.whole.specs.Sums.{All}
use Rattle.whole.proofs.Sums.{all_of, all_map, all_image}
use Rattle.plane.specs.Members.{Member}
use Rattle.plane_rings.specs.Closed.{RingLimits}
use Rattle.plane_rings.specs.Turning.{turn_member}
use Rattle.plane_rings.specs.Directed.{Directed}
use Rattle.plane_rings.proofs.Areas.{limits_reverse}
use Rattle.plane_rings.proofs.Turning.{member_directed, member_stays, member_keeps}
use Rattle.sheet_form.specs.Numbers.{Sheet}
use Rattle.sheet_turned.specs.Rings.{RingsFit}
use Rattle.sheet_turned.specs.Turned.{turned}

pub turned_directed : (n : Sheet) → All (All Directed) (turned n).polygons
turned_directed n = all_image turn_member (All Directed) n.polygons (all_of (λ m. All Directed (turn_member m)) member_directed n.polygons)

-- Its rings stay within the limits.
pub turned_rings : (n : Sheet) → RingsFit n → RingsFit (turned n)
turned_rings n h = all_image turn_member (All (All RingLimits)) n.polygons
    (all_map (All (All RingLimits)) (λ m. All (All RingLimits) (turn_member m)) (member_keeps RingLimits limits_reverse) n.polygons h)

members_stay : (l : List Member) → All (All Directed) l → map turn_member l ≡ l
members_stay [] h = refl
members_stay (m ∷ l) h = ap₂ {C = List Member} ◌∷◌ (member_stays m h.0) (members_stay l h.1)

pub directed_stays : (n : Sheet) → All (All Directed) n.polygons → turned n ≡ n
directed_stays n h = ap (λ l. record { table = n.table; polygons = l }) (members_stay n.polygons h)

pub turned_once : (n : Sheet) → turned (turned n) ≡ turned n
turned_once n = directed_stays (turned n) (turned_directed n)
