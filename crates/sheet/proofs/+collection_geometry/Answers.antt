-- Reading on from where each call leads comes to what reading from its beginning does; behind a header are the rings of a polygon or a row
-- of geometries, which the loop reads one by one.
use Rattle.std.proofs.Common.{◌≡◌, ◌+◌, ◌-◌, sym, ap, ◌∙◌, subst, arith}
use Rattle.std.proofs.lemmas.Result.{err_from_is_err_and}
use Rattle.sheet.specs.Going.{Ready}
use Rattle.sheet.proofs.Onward.{answer, ready, goes_on, any_turn, went_on, after, follow}
use Rattle.sheet.proofs.Rows.{row_first, row_next, row_done}
use Rattle.sheet.proofs.Opened.{stands_goes, goes_held, goes_nowhere, past_polygon, past_row}
use Rattle.sheet.proofs.+collection_geometry.Goals as goal

pub collection-geometry-requires : goal.collection-geometry-requires
collection-geometry-requires t c = let i = c.loop.invariant in (omega arith, (i.0, row_first (c.args.n - c.loop.counter) _ _ (omega arith) i.3))

pub collection-loop-preserved : goal.collection-loop-preserved
collection-loop-preserved t c =
    let l = c.loop in
    let q = c.in_ok-reached in
    let w = went_on _ _ _ _ _ _ q.reached q.ensures.0 in
    let n = row_next (c.args.n - l.counter) (c.args.n - (l.counter + 1)) _ _ _ (omega arith) l.invariant.3 q.ensures.1 in
    (w.0, omega (arith, w.1, l.invariant.1), follow l.invariant.2 w.2, n.0, n.1 ∙ l.invariant.4)

pub collection-returns : goal.collection-returns
collection-returns t c = let i = c.loop.invariant in (((i.0, i.1), i.2.leads), row_done (c.args.n - c.loop.counter) _ _ (omega arith) i.4)

pub geometry-taken-requires : goal.geometry-taken-requires
geometry-taken-requires t c = subst (Ready c.args.c c.args.b) (sym (ap answer c.step-told.ensures)) (ready _ _ _ (omega arith) c.requires.0 (stands_goes _ _ _ c.requires.1))

pub geometry-returns-in_err-opened : goal.geometry-returns-in_err-opened
geometry-returns-in_err-opened t c =
    let p = err_from_is_err_and c.from_residual.result c.from_residual.ensures.1 in
    rw (p.1, p.2) (any_turn _ _ _ _ _ _ _ (ap answer c.step-told.ensures) c.in_err-opened.ensures c.requires.0, tt)

pub geometry-returns-in_default : goal.geometry-returns-in_default
geometry-returns-in_default t c =
    absurd (goes_nowhere _ _ _ _ _ (ap answer c.step-told.ensures) c.requires.1 c.in_ok-opened.opened c.in_ok-opened.ensures.0 c.in_default.not-Geometry)

pub geometry-rings-requires : goal.geometry-rings-requires
geometry-rings-requires t c = ((goes_on _ _ _ _ _ _ (ap answer c.step-told.ensures) c.in_ok-opened.opened c.in_ok-opened.ensures c.requires.0).0, c.if-opened-gt0.true)

pub geometry-returns-then-opened-gt0 : goal.geometry-returns-then-opened-gt0
geometry-returns-then-opened-gt0 t c =
    let e = ap answer c.step-told.ensures in
    let q = c.in_ok-opened in
    let w = goes_on _ _ _ _ _ _ e q.opened q.ensures c.requires.0 in
    let h = goes_held _ _ _ _ _ e c.requires.1 q.opened q.ensures.0 _ _ _ c.in-Geometry.is in
    let r = c.rings in
    (after _ _ _ _ r.new.numbers _ r.result r.ensures.0 _ _ _ w.1 w.2, past_polygon h c.if-opened-gt0.true r.result r.ensures.1)

pub geometry-overflow_sub-depth : goal.geometry-overflow_sub-depth
geometry-overflow_sub-depth t c =
    (goes_held _ _ _ _ _ (ap answer c.step-told.ensures) c.requires.1 c.in_ok-opened.opened c.in_ok-opened.ensures.0 _ _ _ c.in-Geometry.is).deeper (omega arith)

pub geometry-collection-requires : goal.geometry-collection-requires
geometry-collection-requires t c =
    let e = ap answer c.step-told.ensures in
    let q = c.in_ok-opened in
    let w = goes_on _ _ _ _ _ _ e q.opened q.ensures c.requires.0 in
    let h = goes_held _ _ _ _ _ e c.requires.1 q.opened q.ensures.0 _ _ _ c.in-Geometry.is in
    let z : q.opened.place.rings ≡ 0 = omega arith in
    let m = h.deeper z in
    (omega arith, (w.0, h.stand z))

pub geometry-returns : goal.geometry-returns
geometry-returns t c =
    let e = ap answer c.step-told.ensures in
    let q = c.in_ok-opened in
    let w = goes_on _ _ _ _ _ _ e q.opened q.ensures c.requires.0 in
    let h = goes_held _ _ _ _ _ e c.requires.1 q.opened q.ensures.0 _ _ _ c.in-Geometry.is in
    let z : q.opened.place.rings ≡ 0 = omega arith in
    let r = c.collection in
    (after _ _ _ _ r.new.numbers _ r.result r.ensures.0 _ _ _ w.1 w.2, past_row h z r.result r.ensures.1)
