-- A corner stays, else the last piece is taken off.
use Rattle.std.proofs.Common.{◌≡◌, ◌<◌, ℕ, List, sym, ◌∙◌, ◌⊎◌, inl, inr, arith}
use Rattle.whole_order.specs.Ascending.{IsIn}
use Rattle.table_count.proofs.Found.{ranked, not_ranked}
use Rattle.table_trim.proofs.Ends.{last_stop, no_stop, tailed_same, tailed_last}
use Rattle.table_trim.proofs.tail.Goals as goal

stands : (corners : List ℕ) (u v : ℕ) → (u ≡ v → ⊥) → IsIn u corners ⊎ (u ≡ v) → IsIn u corners
stands corners u v n (inl s) = s
stands corners u v n (inr e) = absurd (n e)

pub returns-then-rank-ne0 : goal.returns-then-rank-ne0
returns-then-rank-ne0 c =
    let a = c.args in
    let k = ranked a.corners.now a.v c.requires.0 (λ e. c.if-rank-ne0.true (c.rank.ensures ∙ e)) in
    tailed_same a.corners.now a.u a.v c.requires.2 c.requires.3 (inl (stands a.corners.now a.u a.v c.if-u-v.false c.requires.5, k.stands))

pub returns-in-Some : goal.returns-in-Some
returns-in-Some c =
    let a = c.args in
    let onward : a.u < a.v = omega (arith, c.if-u-v.false) in
    let s = stands a.corners.now a.u a.v c.if-u-v.false c.requires.5 in
    let f = last_stop a.corners.now c.requires.0 c.requires.1 a.u a.v onward c.requires.2 s c.place-at.result c.place-at.ensures.0 c.in-Some.i c.in-Some.ensures in
    tailed_last a.corners.now a.u a.v c.requires.2 c.requires.3 s (not_ranked a.corners.now a.v c.requires.0 (sym c.rank.ensures ∙ c.if-rank-ne0.false)) _ f.before f.key f.ends f.law

pub returns-in-None : goal.returns-in-None
returns-in-None c =
    let a = c.args in
    let onward : a.u < a.v = omega (arith, c.if-u-v.false) in
    let s = stands a.corners.now a.u a.v c.if-u-v.false c.requires.5 in
    let f = no_stop a.corners.now c.requires.0 c.requires.1 a.u a.v onward c.requires.2 s c.place-at.result c.place-at.ensures.0 c.in-None.ensures in
    tailed_last a.corners.now a.u a.v c.requires.2 c.requires.3 s (not_ranked a.corners.now a.v c.requires.0 (sym c.rank.ensures ∙ c.if-rank-ne0.false)) _ f.before f.key f.ends f.law
