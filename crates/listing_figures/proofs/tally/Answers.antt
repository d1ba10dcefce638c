-- The triangle that comes counts by its mark.
use Rattle.std.proofs.Common.{length, true, false, arith, sym, ap, ◌∙◌}
use native.Mathlib.Numerals.{add-one}
use Rattle.listing_figures.specs.Figures.{marks_of, total}
use Rattle.listing_figures.proofs.Totals.{chosen_fewer, chosen_less, next, none_left}
use Rattle.listing_figures.proofs.tally.Goals as goal
use Rattle.listing_figures.proofs.tally.Goals.{then-is_counted, else-is_counted}

pub overflow_add-triangles : goal.overflow_add-triangles
overflow_add-triangles c =
    let a = c.args in
    omega (arith, c.loop-t.invariant.many, chosen_fewer a.areas.now (marks_of a.which a.sets.now a.owners.now))

pub overflow_add-area : goal.overflow_add-area
overflow_add-area c =
    let a = c.args in
    let h = c.requires in
    let n = next a.which a.sets.now a.owners.now a.areas.now c.loop-t.t true (omega arith) h.0 h.1 (sym c.is_counted.ensures ∙ c.if-is_counted.true) in
    omega (arith, c.loop-t.invariant.sum, ap total n, chosen_less a.areas.now (marks_of a.which a.sets.now a.owners.now) h.3)

pub loop-t-preserved : goal.loop-t-preserved
loop-t-preserved c =
    let a = c.args in
    let h = c.requires in
    let l = c.loop-t in
    let one = add-one l.t in
    elim c.if-is_counted.branch [
      | then-is_counted w ↦
          let n = next a.which a.sets.now a.owners.now a.areas.now l.t true (omega arith) h.0 h.1 (sym c.is_counted.ensures ∙ w.if-is_counted.true) in
          record { many = rw one (omega (arith, l.invariant.many, w.triangles-is, ap length n)); sum = rw one (omega (arith, l.invariant.sum, w.area-is, ap total n)) }
      | else-is_counted w ↦
          let n = next a.which a.sets.now a.owners.now a.areas.now l.t false (omega arith) h.0 h.1 (sym c.is_counted.ensures ∙ w.if-is_counted.false) in
          record { many = rw one (omega (arith, l.invariant.many, w.triangles-is, ap length n)); sum = rw one (omega (arith, l.invariant.sum, w.area-is, ap total n)) }
    ]

pub returns : goal.returns
returns c =
    let a = c.args in
    let n = none_left a.which a.sets.now a.owners.now a.areas.now c.loop-t.t (omega arith) in
    (omega (arith, c.loop-t.invariant.many, ap length n), omega (arith, c.loop-t.invariant.sum, ap total n))
