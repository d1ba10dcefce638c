-- The line of an edge that isn't done is marked, walked, and the marks are put back.
use Rattle.std.proofs.Common.{Bool, true, false, get_or, arith}
use Rattle.whole.specs.Tests.{Told}
use Rattle.whole.proofs.Sums.{all_at}
use Rattle.plane.specs.Keys.{Key}
use Rattle.table_lines.proofs.Marked.{begins_outside, ends_outside}
use Rattle.table_runs.proofs.Walks.{onward_line, lines_unmet, lines_more}
use Rattle.table_runs.proofs.edge_line.Goals as goal

-- What is told of one thing is told of what follows from it.
lined_told : (r : Bool) (A B C : Type 0) → (A → B) → Told r A C → Told r B C
lined_told true A B C f h = f h
lined_told false A B C f h = h

pub mark-span-requires : goal.mark-span-requires
mark-span-requires c =
    let a = c.args in
    let r = c.requires in
    let from_key = all_at Key 0 a.from.now a.i r.1.from_keys r.2 in
    let to_key = all_at Key 0 a.to.now a.i r.1.to_keys (omega (arith, r.1.as_many, r.2)) in
    (r.1, from_key, to_key, omega (arith, r.2), lines_unmet a.corners.now a.from.now a.to.now r.1 a.i r.2 a.done.now r.8 c.if-done-i.false, r.7, r.3, r.4, r.5, r.6)

pub wipe-requires : goal.wipe-requires
wipe-requires c =
    let m = c.mark-span in
    let a = c.args in
    (omega (arith, m.ensures.0, m.ensures.2.number), λ k l o. begins_outside a.corners.now (get_or a.from.now a.i 0) (get_or a.to.now a.i 0) a.from.now a.to.now m.result.low m.result.stop c.requires.1.as_many m.ensures.1 k (omega (arith, m.ensures.2.number)) o m.new.begins m.ensures.2)

pub wipe-requires-2 : goal.wipe-requires-2
wipe-requires-2 c =
    let m = c.mark-span in
    let a = c.args in
    (omega (arith, m.ensures.0, m.ensures.3.number), λ k l o. ends_outside a.corners.now (get_or a.from.now a.i 0) (get_or a.to.now a.i 0) a.from.now a.to.now m.result.low m.result.stop c.requires.1.as_many m.ensures.1 k (omega (arith, m.ensures.3.number)) o m.new.ends m.ensures.3)

pub returns : goal.returns
returns c =
    let w = c.walk-settled in
    let m = c.mark-span in
    let a = c.args in
    let r = c.requires in
    let done = m.new.done in (
      c.wipe.ensures.1,
      c.wipe-2.ensures.1,
      lines_more a.corners.now a.from.now a.to.now r.1 a.i r.2 a.done.now r.8 done m.ensures.4,
      λ sides looked opened. lined_told w.result _ _ _ (onward_line sides a.corners.now a.from.now a.to.now r.1 (get_or a.from.now a.i 0) (get_or a.to.now a.i 0) (r.1.long a.i r.2) a.counts.now w.new.counts a.done.now done m.ensures.4) (w.ensures sides looked opened),
    )
