-- A corner stays, else the first piece is taken off.
use Rattle.std.proofs.Common.{◌≡◌, ◌<◌, sym, ◌∙◌, inl, get_or, arith, rules}
use Rattle.table_count.proofs.Found.{ranked, not_ranked}
use Rattle.table_trim.proofs.Ends.{first_stop, headed_same, headed_first}
use Rattle.table_trim.proofs.head.Goals as goal

pub returns-then-rank-ne0 : goal.returns-then-rank-ne0
returns-then-rank-ne0 c =
    let a = c.args in
    let k = ranked a.corners.now a.u c.requires.0 (λ e. c.if-rank-ne0.true (c.rank.ensures ∙ e)) in
    headed_same a.corners.now a.u a.v c.requires.2 c.requires.3 (inl k.stands) c.requires.4

pub returns : goal.returns
returns c =
    let a = c.args in
    let onward : a.u < a.v = omega (arith, c.if-u-v.false) in
    let is : c.unwrap_or.result ≡ get_or a.corners.now c.next_stop-r.result a.v = search rules in
    let f = first_stop a.corners.now c.requires.0 c.requires.1 a.u a.v onward c.requires.3 c.place-at.result c.next_stop-r.result c.unwrap_or.result c.place-at.ensures.0 c.next_stop-r.ensures is in
    let n = not_ranked a.corners.now a.u c.requires.0 (sym c.rank.ensures ∙ c.if-rank-ne0.false) in
    headed_first a.corners.now a.u a.v c.requires.2 c.requires.3 n c.unwrap_or.result f.onward f.within f.key f.ends f.law
