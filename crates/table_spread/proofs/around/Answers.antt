-- Three sides in turn, and each keeps what the one before it labelled.
use Rattle.table_spread.specs.Spreading.{Crossed}
use Rattle.table_spread.proofs.Spreading.{grown_more, crossed_still, three_sides}
use Rattle.table_spread.proofs.around.Goals as goal

pub returns : goal.returns
returns c =
    let f = c.cross-a.ensures in
    let g = c.cross-b.ensures in
    let h = c.cross.ensures in (
      grown_more f.0 (grown_more g.0 h.0),
      h.1,
      three_sides (λ k. Crossed c.args.opposite.now c.args.counts.now _ k) c.args.t (crossed_still (grown_more g.0 h.0) _ f.2) (crossed_still h.0 _ g.2) h.2,
    )
