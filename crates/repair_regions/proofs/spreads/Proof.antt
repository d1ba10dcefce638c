-- `repair_regions::spreads` meets its contract. The invariant: the gaps across the sides of the first i triangles are marked. Assumes nothing.
use mathlib.Core.Path.{◌∙◌, sym}
use Prim.Native.Nat.{◌-◌, ◌≤◌}
use native.Mathlib.Omega.{arith}
use lib.ListN.{length}
use Rattle.repair_regions.specs.Spreading.{Grown, Spread, Fresh}
use Rattle.repair_regions.proofs.Spreading.{most, grown_self, fresh_self, grown_more, fresh_more, spread_one, in_table, all_in_region}
use Rattle.repair_regions.proofs.spreads.Statement.{statement}
use Rattle.repair_regions.proofs.spreads.Tie as tie

abbrev invariant_loop : tie.invariant-loop-i
invariant_loop opposite numbers t met₀ group₀ first start n₀ i₀ met group n i =
    Grown numbers met₀ group₀ start met group n × Spread opposite numbers met group i × Fresh opposite numbers met₀ met t × (first ≤ i) × (i ≤ n)

abbrev decreases_loop : tie.decreases-loop-i
decreases_loop opposite numbers t met₀ group₀ first start n₀ i₀ met group n i = length numbers - i

loop_holds : tie.Need-loop-i-init invariant_loop decreases_loop
loop_holds c = let s = c in (grown_self s.requires.1, s.requires.2, fresh_self _ _ _ _, omega arith, s.requires.4)

mul_u : tie.Need-offset_bounds-group-i invariant_loop decreases_loop
mul_u c = let l = c.loop-i in omega (arith, most l.invariant.0.meeting)

slice_read_u : tie.Need-bounds-group-i invariant_loop decreases_loop
slice_read_u c = let l = c.loop-i in omega (arith, most l.invariant.0.meeting)

around_requires : tie.Need-around-n-requires invariant_loop decreases_loop
around_requires c κs =
    let l = c.loop-i in
    let g = l.invariant.0.meeting in
    (c.requires.0, g, in_table g _ (g.own l.i (omega arith)))

add_i : tie.Need-overflow_add-i invariant_loop decreases_loop
add_i c = let l = c.loop-i in omega (arith, most l.invariant.0.meeting)

loop_less : tie.Need-loop-i-smaller invariant_loop decreases_loop
loop_less c = let l = c.loop-i in omega (arith, most l.invariant.0.meeting, l.invariant.0.meeting.room)

loop_again : tie.Need-loop-i-preserved invariant_loop decreases_loop
loop_again c =
    let l = c.loop-i in
    let s = c in
    let a = c.around-n.ensures in
    let r = all_in_region s.args.t s.args.first l.invariant.0 l.invariant.2 s.requires.5 l.i (omega arith) (omega arith) in (
      grown_more l.invariant.0 a.0,
      spread_one a.0 l.i (omega arith) l.invariant.1 a.1,
      fresh_more s.args.t l.invariant.2 (a.2 s.args.t s.requires.3 r),
      omega arith,
      omega (arith, a.0.more),
    )

same_length : tie.Need-shape_of-met invariant_loop decreases_loop
same_length c = let s = c in c.loop-i.invariant.0.meeting.marks ∙ sym s.requires.1.marks

same_length_2 : tie.Need-shape_of-group invariant_loop decreases_loop
same_length_2 c = let s = c in c.loop-i.invariant.0.meeting.room ∙ sym s.requires.1.room

returns : tie.Need-returns invariant_loop decreases_loop
returns c = let l = c.loop-i in (l.invariant.0, (λ j h. l.invariant.1 j (omega arith)), l.invariant.2)

pub spreads_spec : {M : Type 1} → statement M
spreads_spec =
    tie.close
    (tie.spec
    invariant_loop
    decreases_loop
    loop_holds
    mul_u
    slice_read_u
    around_requires
    add_i
    loop_less
    loop_again
    same_length
    same_length_2
    returns)
