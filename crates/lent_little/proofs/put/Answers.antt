-- The next byte is the first of those that are left; where there is no room it is left out.
use Rattle.std.proofs.Common.{◌≡◌, List, ℕ, suc, ◌+◌, ◌-◌, ◌/◌, ◌%◌, ◌<◌, set, sym, ap, ◌∙◌, arith}
use Rattle.std.proofs.Math.Seq.{sets, set_out}
use Rattle.lent_little.specs.Ordered.{bytes}
use Rattle.lent_little.proofs.put.Goals as goal
use Rattle.lent_little.proofs.put.Goals.{then-to-i, else-to-i}

-- the next byte stored, of the bytes that are left
one_more : (out : List ℕ) (to i n v : ℕ) → i < n → sets (set out (to + i) (v % 256)) (to + (i + 1)) (bytes (n - (i + 1)) (v / 256)) ≡ sets out (to + i) (bytes (n - i) v)
unfolding bytes
one_more out to i n v h =
    let p : to + (i + 1) ≡ suc (to + i) = omega arith in
    let q : suc (n - (i + 1)) ≡ n - i = omega arith in
    ap (λ (k : ℕ). sets (set out (to + i) (v % 256)) k (bytes (n - (i + 1)) (v / 256))) p ∙ ap (λ (k : ℕ). sets out (to + i) (bytes k v)) q

none_left : (out : List ℕ) (to m v : ℕ) → 0 ≡ m → out ≡ sets out to (bytes m v)
unfolding bytes
none_left out to m v e = ap (λ (k : ℕ). sets out to (bytes k v)) e

pub loop-i-preserved : goal.loop-i-preserved
loop-i-preserved c =
    let l = c.loop-i in
    let a = c.args in
    let e : c.if-to-i.out ≡ set l.out (a.to + l.i) (l.v % 256) = elim c.if-to-i.branch [ then-to-i w ↦ w.out-is | else-to-i w ↦ w.out-is ∙ sym (set_out l.out (a.to + l.i) (l.v % 256) w.if-to-i.false) ] in
    ap (λ (o : List ℕ). sets o (a.to + (l.i + 1)) (bytes (a.n - (l.i + 1)) (l.v / 256))) e ∙ one_more l.out a.to l.i a.n l.v (omega arith) ∙ l.invariant

pub returns : goal.returns
returns c = none_left c.loop-i.out (c.args.to + c.loop-i.i) (c.args.n - c.loop-i.i) c.loop-i.v (omega arith) ∙ c.loop-i.invariant
