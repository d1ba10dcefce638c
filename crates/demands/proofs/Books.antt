-- The books balance: the figures that the listing prints of a sheet fit together. Assumes nothing.
use mathlib.Core.Path.{◌≡◌}
use mathlib.Core.List.{List, [], ◌∷◌, map}
use Prim.Native.Nat.{ℕ}
use lib.IntN.{◌+ℤ◌}
use Rattle.whole.specs.Sums.{sum}
use Rattle.plane.specs.Points.{double}
use Rattle.plane.specs.Members.{double_area}
use Rattle.lent.specs.Stages.{value}
use Rattle.table.specs.Table.{corners, frame_of, rectangle}
use Rattle.table.specs.Sets.{chosen}
use Rattle.owners_marks.specs.Marks.{standing_by}
use Rattle.judged.specs.Judged.{Judged, judged_sheet}
use Rattle.judged.proofs.Stages.{judged_value}
use Rattle.listing.proofs.Figures
use Rattle.listing_figures.specs.Standings.{is_single, owing}
use Rattle.listing.specs.Listing.{gaps_of, overlaps_of}

-- Bytes come to a judged sheet: a sheet with owners for each triangle.
module _ (mode : ℕ) (s : List ℕ) (j : Judged) (e : judged_sheet mode s ≡ value j) where
  -- The double areas of all polygons, from their corners alone, add up to the sum over the triangles of double area times number of owners.
  pub books_balance : sum double_area j.sheet.polygons ≡ owing j.sheet.table j.owners
  books_balance = Figures.books_balance ((judged_value mode s j).0 e).1

  -- The frame's double area is that of the triangles with one owner, plus gaps, plus overlaps.
  pub frame_balance : double_area ((rectangle (frame_of (corners j.sheet.table)) ∷ []) ∷ [])
      ≡ sum double (chosen j.sheet.table (map (λ o. is_single (standing_by o)) j.owners)) +ℤ sum double (gaps_of j.sheet.table j.owners) +ℤ sum double (overlaps_of j.sheet.table j.owners)
  frame_balance = Figures.frame_balance ((judged_value mode s j).0 e).1
