-- The figures of the first k polygons are laid down.
use Rattle.std.proofs.Common.{length}
use Rattle.listing_lines.specs.Printing.{owned_by}
use Rattle.listing_lines.proofs.Lines.{Laid}
use Rattle.listing_lines.proofs.lay_after.Given as goal

abbrev pub invariant-loop-k : goal.invariant-loop-k
invariant-loop-k l = Laid (owned_by l.sets l.owners l.areas) (length l.fn.doubles) l.doubles l.k
