-- A grid point belongs to as many triangles of a set as the edges with the set's boundary wind round it: edges of any outline, or of a polygon's rings.
-- The idea: round a triangle the sides wind once or never; the winding of an edge changes its sign with the direction and adds up at a cut; and so the
-- edge-sum law takes it from the triangles to any edges with their boundary. Assumes nothing.
use mathlib.Core.Path.{◌≡◌, refl, sym, ◌∙◌, ap₂}
use mathlib.Core.List.{List, [], ◌∷◌, flat_map}
use lib.IntN.{◌+ℤ◌}
use Rattle.whole.proofs.Sums.{sum-++}
use Rattle.plane.specs.Points.{Point, Edge, Triangle, sides}
use Rattle.plane.specs.Cuts.{all_pieces}
use Rattle.plane.specs.Boundaries.{sides_of}
use Rattle.plane.proofs.Boundaries.{edge_sum}
use Rattle.plane.proofs.Cuts.{pieces_sum}
use Rattle.plane_winding.specs.Winding.{wind, coverage, winding}
use Rattle.plane_winding.proofs.Winding.{wind_flip, wind_adds}
use Rattle.plane_winding.proofs.Belongs.{triangle_wind}
use Rattle.table.specs.Table.{corners, Bounds, RuleA}

-- The sides of triangles wind round a point as often as it belongs to one.
sides_wind : (z : Point) (s : List Triangle) → RuleA s → winding z (sides_of s) ≡ coverage z s
unfolding flat_map
sides_wind z [] h = refl
sides_wind z (t ∷ s) h = sum-++ (wind z) (sides t) (sides_of s) ∙ ap₂ ◌+ℤ◌ (triangle_wind z t h.0) (sides_wind z s h.1)

pub covered : (z : Point) (table s : List Triangle) (l : List Edge) → RuleA s → Bounds table l s → coverage z s ≡ winding z l
covered z table s l h k =
    sym (sides_wind z s h)
    ∙ edge_sum (wind z) (wind_flip z) (sides_of s) (all_pieces (corners table) l) k
    ∙ pieces_sum (wind z) (wind_flip z) (wind_adds z) (corners table) l
