-- `table_count::rank` meets its contract: a corner stands at its place, and nowhere else. Assumes nothing.
use mathlib.Core.Path.{sym, ◌∙◌, ap}
use native.Mathlib.Omega.{arith}
use native.Mathlib.Numerals.{add-one}
use borrow.Author.Rules.{rules}
use lib.ListN.{get_or}
use Rattle.whole_order.proofs.Ascending.{place_found}
use Rattle.table_sides.specs.Numbered.{number_in}
use Rattle.table_count.proofs.Ranked.{number_at, number_none}
use Rattle.table_count.proofs.rank.Statement.{statement}
use Rattle.table_count.proofs.rank.Tie as tie

place_requires : tie.Need-place-at-requires
place_requires c κs = search rules

mul_if2 : tie.Need-offset_bounds-corners-at
mul_if2 c = search rules

shared_slice_read_if2 : tie.Need-bounds-corners-at
shared_slice_read_if2 c = search rules

add_result : tie.Need-overflow_add-result
add_result c = search rules

returns : tie.Need-returns-then-corners-at
returns c =
    let s = c in
    let at = c.place-at.result in
    add-one at ∙ sym (number_at s.args.corners.now at s.requires (omega arith)) ∙ ap (λ z. number_in z s.args.corners.now) c.if-corners-at.true

returns_2 : tie.Need-returns-else-corners-at
returns_2 c =
    let s = c in
    sym (number_none s.args.u s.args.corners.now
    (λ t. c.if-corners-at.false (ap (λ i. get_or s.args.corners.now i 0) c.place-at.ensures.0 ∙ (place_found s.args.corners.now s.args.u s.requires t).1)))

returns_3 : tie.Need-returns-else-at-corners
returns_3 c =
    let s = c in
    sym (number_none s.args.u s.args.corners.now (λ t. absurd (omega (arith, c.place-at.ensures.0, (place_found s.args.corners.now s.args.u s.requires t).0))))

pub rank_spec : {M : Type 1} → statement M
rank_spec =
    tie.close
    (tie.spec place_requires mul_if2 shared_slice_read_if2 add_result returns returns_2 returns_3)
