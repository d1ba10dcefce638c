-- Each triangle left has rule A, so that its double area is a number above 0.
use Rattle.std.proofs.Common.{map, pos, arith, refl, sym, ◌∙◌}
use mathlib.Core.List.{append-nil}
use native.Mathlib.Numerals.{add-one}
use lib.Seq.{take_all}
use Rattle.whole.proofs.Bound.{returned}
use Rattle.table.proofs.Faults.{triangles_end}
use Rattle.listing_figures.proofs.Measuring.{number_fits, measured_more}
use Rattle.listing_figures.proofs.areas.Goals as goal

pub loop-t-init : goal.loop-t-init
loop-t-init c = record { same = refl; small = tt; rule = c.requires.1 }

pub returns : goal.returns
returns c =
    let l = c.loop-t in
    let m = l.invariant in
    let all = take_all l.t l.areas (omega arith) in
    let none = triangles_end c.args.keys.now l.t (omega arith) in
    (sym (append-nil (map pos l.areas)) ∙ rw (all, none) at m.same, rw all at m.small)

pub loop-t-preserved : goal.loop-t-preserved
loop-t-preserved c =
    let a = c.args in
    let l = c.loop-t in
    let e = returned c.area_at.result c.area_at.type_inv ∙ c.area_at.ensures in
    let n = number_fits a.keys.now l.areas l.t _ c.requires.0 (omega arith) l.invariant e in
    rw add-one (measured_more a.keys.now l.areas l.t _ (omega arith) (omega arith) l.invariant n.1 n.2)
