-- A sheet whose rings are within the limits.
use Rattle.whole.specs.Sums.{All}
use Rattle.plane_rings.specs.Closed.{RingLimits}
use Rattle.sheet_form.specs.Numbers.{Sheet}

-- Each ring of the sheet is closed and has 4 to 4,096 points.
abbrev pub RingsFit : Sheet → Type 0
RingsFit n = All (All (All RingLimits)) n.polygons
