-- The double area of a closed ring by its corners.
use Rattle.std.specs.Prelude.{[], ◌∷◌, ◌-◌, ℤ, pos, ◌+ℤ◌, ◌-ℤ◌, ◌*ℤ◌, length, get_or}
use Rattle.plane.specs.Members.{Ring}
use Rattle.plane_rings.specs.Closed.{origin}

-- Along points: for each but the first and the last its x times the difference of the y after it and the y before it.
abbrev pub along : Ring → ℤ
along [] = pos 0
along (p ∷ []) = pos 0
along (p ∷ q ∷ []) = pos 0
along (p ∷ q ∷ r ∷ l) = q.x *ℤ (r.y -ℤ p.y) +ℤ along (q ∷ r ∷ l)

-- The sum with one product at each corner of a closed ring. The closing point is no corner: before the first corner comes the last but one of the points.
unfoldable pub corner_sum : Ring → ℤ
corner_sum r = along (get_or r (length r - 2) origin ∷ r)
