-- The corners of the table, each at its place, are as many as the triangle count says.
use Rattle.std.proofs.Common.{rules, ◌≡◌, ◌+◌, ◌*◌, ◌∙◌, arith, ap, sym, subst}
use Rattle.plane.specs.Keys.{point, InRange}
use Rattle.table.specs.Table.{corners}
use Rattle.sheet_edges.specs.Standing.{corner_at}
use Rattle.sheet_written.specs.Fits.{origin}
use Rattle.sheet_framed.proofs.Corners.{corner_count, counts, long, corner_in, corner_is}
use Rattle.sheet_framed.proofs.frame.Goals as goal

pub frame_by-requires-clause-given : goal.frame_by-requires-clause-given
frame_by-requires-clause-given c = λ i l.
    let (limit, n, h) = c.requires in
    let w = counts n c.args.numbers.now h in
    let k = long n c.args.numbers.now h i (omega (arith, w.1)) in
    search rules

pub frame_by-requires-clause-in_range : goal.frame_by-requires-clause-in_range
frame_by-requires-clause-in_range c = λ i x l e.
    let (limit, n, h) = c.requires in
    let s = c.args.numbers.now in
    let w = counts n s h in
    let at : x ≡ corner_at s (2 * i + 1) = search rules in
    subst InRange (sym at) (corner_in n s h i (omega (arith, w.1)))

pub returns : goal.returns
returns c = (
  c.frame_by.ensures.in_range,
  λ limit n h.
      let s = c.args.numbers.now in
      let w = counts n s h in
      c.frame_by.ensures.is (corners n.table) origin (omega (arith, corner_count n.table, w.1)) (λ i x l e. let at : x ≡ corner_at s (2 * i + 1) = search rules in ap point at ∙ corner_is n s h i (omega (arith, w.1))),
)
