-- `judged_sets::judge_at` meets its contract: what is laid down are the edges of the polygon at the place, and these are judged. Assumes nothing.
use Rattle.std.proofs.Common.{sym, arith}
use lib.Seq.{length-take-le}
use Rattle.judged_sets.proofs.Room.{edges_room}
use Rattle.judged_sets.proofs.Following.{laid_room, laid_edged}
use Rattle.judged_sets.proofs.judge_at.Goals as goal

pub polygon-laid-requires : goal.polygon-laid-requires
polygon-laid-requires c =
    let a = c.args in
    let p = c.requires in
    record { held = p.1; thing = p.2.0; rest = p.2.1; numbers_at = p.2.2.numbers_at; from_room = omega (arith, edges_room a.from.now p.2.2 p.3); to_room = omega (arith, edges_room a.to.now p.2.2 p.4) }

pub slice_bounds-judge-end : goal.slice_bounds-judge-end
slice_bounds-judge-end c = let p = c.requires in (laid_room c.polygon-laid.ensures p.2.2 p.3 p.4).0

pub slice_bounds-judge-end-2 : goal.slice_bounds-judge-end-2
slice_bounds-judge-end-2 c = let p = c.requires in sym (length-take-le _ _ (laid_room c.polygon-laid.ensures p.2.2 p.3 p.4).0)

pub slice_bounds-judge-end-3 : goal.slice_bounds-judge-end-3
slice_bounds-judge-end-3 c = let p = c.requires in (laid_room c.polygon-laid.ensures p.2.2 p.3 p.4).1

pub slice_bounds-judge-end-4 : goal.slice_bounds-judge-end-4
slice_bounds-judge-end-4 c = let p = c.requires in sym (length-take-le _ _ (laid_room c.polygon-laid.ensures p.2.2 p.3 p.4).1)

pub judge-requires : goal.judge-requires
judge-requires c = let p = c.requires in (p.0, laid_edged c.polygon-laid.ensures p.2.2 p.3 p.4)
