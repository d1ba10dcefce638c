-- The first t areas are the double areas of the first t triangles.
use Rattle.listing_figures.proofs.Measuring.{Measured}
use Rattle.listing_figures.proofs.areas.Given as goal

abbrev pub invariant-loop-t : goal.invariant-loop-t
invariant-loop-t l = Measured l.keys l.areas l.t
