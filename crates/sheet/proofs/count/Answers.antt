-- Where each test is passed, the step at the place is a ring with this count.
use Rattle.std.proofs.Common.{◌≡◌, sym, ◌∙◌, subst, arith}
use Rattle.wkb.specs.declared.Step.TheVariants.{Ring}
use Rattle.wkb.specs.Steps.{with_points, step_at}
use Rattle.sheet.specs.Going.{Ready}
use Rattle.sheet.specs.Reading.{taken}
use Rattle.sheet.proofs.Onward.{ready}
use Rattle.sheet.proofs.Closed.{ring_some, ring_open, inside_goes}
use Rattle.sheet.proofs.Reaching.{ring_step, reach_step}
use Rattle.sheet.proofs.count.Goals as goal

pub ringing-requires : goal.ringing-requires
ringing-requires c =
    let n = c.word-n.result in
    let d = with_points n c.args.c in
    let e : Ring n d ≡ step_at c.args.s.now c.args.c =
    ring_step c.args.s.now c.args.c n (omega arith) c.requires.1 (sym c.remain.ensures ∙ c.if-not-remain.false) c.word-n.ensures (sym c.ring_fits.ensures ∙ c.if-not-ring_fits.false) in
    subst (Ready c.args.c c.args.b) (sym e) (ready c.args.s.now c.args.c c.args.b (omega arith) c.requires.0 (inside_goes _ _ c.requires.1))

pub returns : goal.returns
unfolding taken
returns c =
    let n = c.word-n.result in
    let d = with_points n c.args.c in
    let f = sym c.ring_fits.ensures ∙ c.if-not-ring_fits.false in
    let e : Ring n d ≡ step_at c.args.s.now c.args.c = ring_step c.args.s.now c.args.c n (omega arith) c.requires.1 (sym c.remain.ensures ∙ c.if-not-remain.false) c.word-n.ensures f in
    let p = c.with_points.ensures in
    let b = c.ringing.ensures in (
      (reach_step _ _ _ _ c.requires.0 c.requires.1 (Ring n d) (record { place = _; build = _ }) _ e ((p, b.0), λ t out k. (p, b.1 t out k))).0,
      rw p (ring_open c.args.c n (ring_some c.args.c n f)),
    )
