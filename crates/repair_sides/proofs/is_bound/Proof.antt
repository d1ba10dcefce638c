-- `repair_sides::is_bound` meets its contract, by whose the side's own triangle is, and whether there is one across. Assumes nothing.
use Prim.Native.Nat.{◌-◌}
use native.Mathlib.Omega.{arith}
use borrow.Author.Rules.{rules}
use lib.ListN.{get_or}
use Rattle.repair_sides.proofs.Laying.{not_own, none_across, some_across}
use Rattle.repair_sides.proofs.is_bound.Statement.{statement}
use Rattle.repair_sides.proofs.is_bound.Tie as tie

returns : tie.Need-returns-then-owners-k
returns c = let s = c.args in not_own s.opposite.now s.owners.now s.polygon s.k c.if-owners-k.true

returns_2 : tie.Need-returns-then-o-eq0
returns_2 c = let s = c.args in none_across s.opposite.now s.owners.now s.polygon s.k c.if-owners-k.false c.if-o-eq0.true

shared_slice_read_result : tie.Need-bounds-owners-o
shared_slice_read_result c =
    let s = c in
    omega (arith, s.requires.0.there s.args.k (get_or s.args.opposite.now s.args.k 0 - 1) (omega (arith, c.if-o-eq0.false)), s.requires.0.sides)

returns_3 : tie.Need-returns
returns_3 c = let s = c.args in some_across s.opposite.now s.owners.now s.polygon s.k c.if-owners-k.false (λ e. c.if-o-eq0.false e)

pub is_bound_spec : {M : Type 1} → statement M
is_bound_spec =
    tie.close
    (tie.spec
    (λ c. search rules)
    returns
    (λ c. search rules)
    (λ c. search rules)
    returns_2
    (λ c. search rules)
    shared_slice_read_result
    returns_3)
