-- What is counted so far, with the marked triangles from t on, comes to all that are marked.
use Rattle.std.proofs.Common.{◌≡◌, ◌+◌, length}
use Rattle.listing_figures.specs.Figures.{total}
use Rattle.listing_figures.proofs.Totals.{left}
use Rattle.listing_figures.proofs.tally.Given as goal

abbrev pub invariant-loop-t : goal.invariant-loop-t
invariant-loop-t l = record {
  many : l.triangles + length (left l.which l.sets l.owners l.areas l.t) ≡ length (left l.which l.sets l.owners l.areas 0);
  sum : l.area + total (left l.which l.sets l.owners l.areas l.t) ≡ total (left l.which l.sets l.owners l.areas 0);
}
