-- `repair_regions::meet` meets its contract: the two stores are the two lists of `takes`. Assumes nothing.
use mathlib.Core.Path.{refl}
use native.Mathlib.Omega.{arith}
use Rattle.repair_regions.specs.Spreading.{stays, takes}
use borrow.Author.Rules.{rules}
use Rattle.repair_regions.proofs.meet.Statement.{statement}
use Rattle.repair_regions.proofs.meet.Tie as tie

shared_slice_read_if1 : tie.Need-bounds-numbers-u
shared_slice_read_if1 c = search rules

returns : tie.Need-returns-then-numbers-u-ne0
returns c = stays (λ e. absurd (c.if-numbers-u-ne0.true e)) refl refl refl

slice_read_if2 : tie.Need-bounds-met-u
slice_read_if2 c = search rules

returns_2 : tie.Need-returns-then-met-u
returns_2 c = stays (λ e. c.if-met-u.true) refl refl refl

slice_write_met : tie.Need-bounds-met-u-2
slice_write_met c = search rules

mul_group : tie.Need-offset_bounds-group-n
mul_group c = omega (arith, c.requires.2 c.if-met-u.false)

slice_write_group : tie.Need-bounds-group-n
slice_write_group c = c.requires.2 c.if-met-u.false

add_result : tie.Need-overflow_add-result
add_result c = omega (arith, c.requires.2 c.if-met-u.false)

same_length : tie.Need-shape_of-met
same_length c = search rules

same_length_2 : tie.Need-shape_of-group
same_length_2 c = search rules

returns_3 : tie.Need-returns
returns_3 c = takes (omega (arith, c.if-numbers-u-ne0.false)) c.if-met-u.false refl refl (omega arith)

pub meet_spec : {M : Type 1} → statement M
meet_spec =
    tie.close
    (tie.spec
    shared_slice_read_if1
    returns
    slice_read_if2
    returns_2
    slice_write_met
    mul_group
    slice_write_group
    add_result
    same_length
    same_length_2
    returns_3)
