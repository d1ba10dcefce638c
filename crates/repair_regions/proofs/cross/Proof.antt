-- `repair_regions::cross` meets its contract: the triangle across side k is met if it is a gap. Assumes nothing.
use mathlib.Core.Logic.{inl}
use Prim.Native.Nat.{◌-◌}
use native.Mathlib.Omega.{arith}
use lib.ListN.{get_or}
use Rattle.repair_regions.proofs.Spreading.{grown_self, may_take, crossed}
use borrow.Author.Rules.{rules}
use Rattle.repair_regions.proofs.cross.Statement.{statement}
use Rattle.repair_regions.proofs.cross.Tie as tie

mul_o : tie.Need-offset_bounds-opposite-k
mul_o c = search rules

shared_slice_read_o : tie.Need-bounds-opposite-k
shared_slice_read_o c = search rules

returns : tie.Need-returns-then-o-eq0
returns c = (grown_self c.requires.1, record { at = λ o e. absurd (omega (arith, c.if-o-eq0.true)) }, λ t h r. record { since = λ u m. inl m })

sub_meet : tie.Need-overflow_sub-o
sub_meet c = search rules

meet_requires : tie.Need-meet-requires
meet_requires c κs =
    let s = c in
    let o = get_or s.args.opposite.now s.args.k 0 - 1 in
    let e = s.requires.0.there s.args.k o (omega (arith, c.if-o-eq0.false)) in
    may_take s.requires.1 _ (omega (arith, e, s.requires.0.sides))

same_length : tie.Need-shape_of-met
same_length c = search rules

same_length_2 : tie.Need-shape_of-group
same_length_2 c = search rules

returns_2 : tie.Need-returns
returns_2 c =
    let s = c in
    let o = get_or s.args.opposite.now s.args.k 0 - 1 in
    crossed s.requires.1 s.args.opposite.now s.requires.0 s.args.k o (omega (arith, c.if-o-eq0.false)) c.meet.ensures

pub cross_spec : {M : Type 1} → statement M
cross_spec =
    tie.close
    (tie.spec
    mul_o
    shared_slice_read_o
    returns
    sub_meet
    meet_requires
    same_length
    same_length_2
    returns_2)
