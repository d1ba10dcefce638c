-- The corners of the table, each at its place, are as many as the triangle count says.
use Rattle.std.proofs.Common.{rules, ◌≡◌, ◌∙◌, arith}
use Rattle.plane.specs.Keys.{point, InRange}
use Rattle.table.specs.Table.{corners}
use Rattle.sheet_written.specs.Fits.{origin}
use Rattle.sheet_framed.proofs.Corners.{corner_count}
use Rattle.sheet_blob_writer.specs.Corners.{point_in, CornerIn}
use Rattle.sheet_blob_writer.proofs.Table.{four, counts, corner_in, corner_is}
use Rattle.sheet_blob_writer.proofs.frame.Goals as goal

pub word-requires : goal.word-requires
word-requires c = let (n, e) = c.requires in four c.args.form.now n e

pub frame_by-requires-clause-given : goal.frame_by-requires-clause-given
frame_by-requires-clause-given c = λ i l.
    let (n, e) = c.requires in
    let w = counts c.args.form.now n e c.word.result (omega arith) c.word.ensures in
    let k : CornerIn c.args.form.now i = corner_in c.args.form.now n e i (omega (arith, w.0)) in
    search rules

pub frame_by-requires-clause-in_range : goal.frame_by-requires-clause-in_range
frame_by-requires-clause-in_range c = λ i x l e. let w : InRange x × (point x ≡ point_in c.args.form.now i) = search rules in w.0

pub returns : goal.returns
returns c = (
  c.frame_by.ensures.in_range,
  λ n e.
      let s = c.args.form.now in
      let k = counts s n e c.word.result (omega arith) c.word.ensures in
      c.frame_by.ensures.is (corners n.table) origin (omega (arith, corner_count n.table, k.0))
      (λ i x l p. let w : InRange x × (point x ≡ point_in s i) = search rules in w.1 ∙ corner_is s n e i (omega (arith, k.0))),
)
