-- The polygon that stands next is summed up, and its double area is laid down behind those before it.
use Rattle.std.proofs.Common.{arith, ap, ◌∙◌, w64, of_z}
use Rattle.sheet_areas.proofs.Walk.{one_fits}
use Rattle.sheet_areas.proofs.Sheets.{laying_begin, laying_place, laying_more, laying_done}
use Rattle.sheet_areas.proofs.areas.Goals as goal

pub loop-area-init : goal.loop-area-init
loop-area-init c = λ limit n size h fits many. laying_begin size c.args.numbers.now h c.args.areas.now fits many

pub polygon-one-requires : goal.polygon-one-requires
polygon-one-requires c = let p = c.requires in laying_place (c.loop-area.invariant p.0 p.1 p.2 p.3 p.4 p.5) p.3.held (omega arith)

pub loop-area-preserved : goal.loop-area-preserved
loop-area-preserved c =
    let p = c.requires in
    let r = c.polygon-one.ensures in
    let place = laying_place (c.loop-area.invariant p.0 p.1 p.2 p.3 p.4 p.5) p.3.held (omega arith) in
    let e = c.cast_unsigned.ensures ∙ ap (of_z w64) (one_fits place r) in
    λ limit n size h fits many. rw e (laying_more (c.loop-area.invariant limit n size h fits many) h.held (omega arith) r)

pub returns : goal.returns
returns c = λ limit n size h fits many. laying_done (c.loop-area.invariant limit n size h fits many) (omega arith)
