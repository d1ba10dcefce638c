-- A held number less 10,000,000 is a double exactly. Assumes nothing.
use Rattle.std.proofs.Common.{arith, ◌≡◌, ◌∙◌, refl, pos, w64, to_z, of_z}
use lib.Dec.{lit<}
use mir.ValLaws.{to_z_pos}
use Rattle.whole.specs.Numbers.{Within}
use Rattle.whole.proofs.Bound.{within_gap, exact}
use Rattle.plane.specs.Corners.{millimetres}
use Rattle.sheet_written.specs.Normal.{pattern_of}
use Rattle.sheet_ring_bytes.proofs.pattern.Goals as goal

pub returns : goal.returns
unfolding pattern_of
returns c =
    let h = c.args.h in
    let near : Within 4294967296 (millimetres h) = within_gap 4294967296 10_000_000 h (omega arith) (omega arith) in
    let plain : to_z w64 h ≡ pos h = to_z_pos w64 h (omega arith) in
    let itself : to_z w64 (of_z w64 (millimetres h)) ≡ millimetres h = exact 4294967296 (millimetres h) (lit< tt) near in
    c.pattern.ensures ∙ rw (plain, itself) refl
