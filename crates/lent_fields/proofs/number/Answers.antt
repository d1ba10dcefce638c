-- One byte more, the next of the most significant ones.
use Rattle.std.proofs.Common.{◌≡◌, sym, lit<, arith}
use Rattle.lent_little.proofs.Ordered.{top_none, top_more, top_all, grow, word_fits}
use Rattle.lent_fields.proofs.number.Goals as goal

pub loop-k-init : goal.loop-k-init
loop-k-init c = record { is = sym (top_none _ _ _ _ c.requires.1); fits = lit< tt }

pub overflow_mul-v : goal.overflow_mul-v
overflow_mul-v c =
    let l = c.loop-k in
    let h = word_fits l.k l.v 0 (omega arith) l.invariant.fits (lit< tt) in omega arith

pub overflow_add-v : goal.overflow_add-v
overflow_add-v c =
    let l = c.loop-k in
    record { fits = word_fits l.k l.v c.from.result (omega arith) l.invariant.fits (omega (arith, c.type_inv.s c.place-i.result)) }

pub loop-k-preserved : goal.loop-k-preserved
loop-k-preserved c =
    let l = c.loop-k in
    let a = c.args in
    record {
      is = cc (top_more a.little a.s.now a.at a.n l.k (omega arith) (omega arith));
      fits = grow l.k l.v c.from.result l.invariant.fits (omega (arith, c.type_inv.s c.place-i.result));
    }

pub returns : goal.returns
returns c =
    let l = c.loop-k in
    let a = c.args in
    let e : l.k ≡ a.n = omega arith in
    (cc (top_all a.little a.s.now a.at a.n), rw (← e) l.invariant.fits)
