-- `repair_regions::around` meets its contract: three sides in turn, and each keeps what the one before it marked. Assumes nothing.
use Prim.Native.Nat.{◌+◌, ◌*◌}
use native.Mathlib.Omega.{arith}
use Rattle.repair_regions.proofs.Spreading.{grown_more, fresh_more, across_still, rounded, fresh_side}
use borrow.Author.Rules.{rules}
use Rattle.repair_regions.proofs.around.Statement.{statement}
use Rattle.repair_regions.proofs.around.Tie as tie

mul_k : tie.Need-overflow_mul-k
mul_k c = search rules

cross_requires : tie.Need-cross-a-requires
cross_requires c κs = search rules

add_cross : tie.Need-overflow_add-k
add_cross c = search rules

cross_requires_2 : tie.Need-cross-b-requires
cross_requires_2 c κs =
    let s = c in
    (s.requires.0, c.cross-a.ensures.0.meeting, omega (arith, s.requires.0.sides, s.requires.2))

add_cross_2 : tie.Need-overflow_add-k-2
add_cross_2 c = search rules

cross_requires_3 : tie.Need-cross-requires
cross_requires_3 c κs =
    let s = c in
    (s.requires.0, c.cross-b.ensures.0.meeting, omega (arith, s.requires.0.sides, s.requires.2))

same_length : tie.Need-shape_of-met
same_length c = search rules

same_length_2 : tie.Need-shape_of-group
same_length_2 c = search rules

returns : tie.Need-returns
returns c =
    let s = c in
    let u = s.args.u in
    let a = c.cross-a.ensures in
    let b = c.cross-b.ensures in
    let d = c.cross.ensures in
    let f = fresh_side (3 * u) u (omega arith) a.2 in
    let g = fresh_side (3 * u + 1) u (omega arith) b.2 in
    let h = fresh_side (3 * u + 2) u (omega arith) d.2 in (
      grown_more a.0 (grown_more b.0 d.0),
      rounded s.args.opposite.now s.args.numbers.now _ u (across_still (grown_more b.0 d.0) _ a.1) (across_still d.0 _ b.1) d.1,
      λ t within has. fresh_more t (f t within has) (fresh_more t (g t within has) (h t within has)),
    )

pub around_spec : {M : Type 1} → statement M
around_spec =
    tie.close
    (tie.spec
    mul_k
    cross_requires
    add_cross
    cross_requires_2
    add_cross_2
    cross_requires_3
    same_length
    same_length_2
    returns)
