-- A number of 32 bits is one of 64, and a double exactly.
use Rattle.std.proofs.Common.{◌∙◌, ap, to_z}
use Rattle.std.specs.Int.{w32}
use Rattle.std.specs.Float.{binary64}
use Rattle.std.specs.Float.Ieee.{of_int, to_bits}
use Rattle.std.proofs.Math.Facts.{of_z-to_z}
use Rattle.whole.proofs.Bound.{returned}
use Rattle.sheet_written.specs.Normal.{pattern_of}
use Rattle.sheet_writer.proofs.pattern.Goals as goal

pub returns : goal.returns
unfolding pattern_of
returns c =
    c.pattern.ensures
    ∙ (rw (returned c.from.result c.from.type_inv, c.from.ensures, c.cast_signed.ensures) (ap (λ n. to_bits binary64 (of_int binary64 (to_z w32 n))) (of_z-to_z c.ranges.b)))
