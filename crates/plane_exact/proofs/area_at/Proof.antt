-- `plane_exact::area_at` meets its contract: the corners of the three numbers are handed to `double_area`. Assumes nothing.
use mathlib.Core.Path.{refl, sym, ◌∙◌, subst}
use Prim.Native.Nat.{ℕ, ◌<◌}
use native.Mathlib.Omega.{arith}
use borrow.Author.Rules.{rules}
use lib.ListN.{length, get_or}
use Rattle.whole.proofs.Bound.{returned}
use Rattle.whole.proofs.Sums.{all_at}
use Rattle.plane.specs.Keys.{InRange, point_at, Key}
use Rattle.plane_exact.proofs.area_at.Statement.{statement}
use Rattle.plane_exact.proofs.area_at.Tie as tie

double_area_requires : tie.Need-double_area-requires
double_area_requires c κs =
    let b = c.before.before in
    let a = b.before.before in
    let o = a in
    let k : (i : ℕ) → i < length o.args.keys.now → Key (get_or o.args.keys.now i 0) = λ i. all_at Key 0 o.args.keys.now i o.requires.0 in
    let p = subst InRange (sym a.corner_at-a.ensures) (k _ (omega arith)) in
    let q = subst InRange (sym b.corner_at-b.ensures) (k _ (omega arith)) in
    let r = subst InRange (sym c.corner_at-c.ensures) (k _ (omega arith)) in
    search rules

returns : tie.Need-returns
unfolding point_at
returns d =
    let c = d.before in
    let b = c.before.before in
    let a = b in
    returned _ d.double_area.type_inv ∙ d.double_area.ensures ∙ rw (a.corner_at-a.ensures, b.corner_at-b.ensures, c.corner_at-c.ensures) refl

pub area_at_spec : {M : Type 1} → statement M
area_at_spec =
    tie.close
    (tie.spec
    (λ c. search rules)
    (λ c. search rules)
    (λ c. search rules)
    (λ c κs. search rules)
    (λ c. search rules)
    (λ c. search rules)
    (λ c. search rules)
    (λ c κs. search rules)
    (λ c. search rules)
    (λ c. search rules)
    (λ c. search rules)
    (λ c κs. search rules)
    double_area_requires
    returns)
