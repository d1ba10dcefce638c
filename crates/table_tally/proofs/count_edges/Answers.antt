-- The next edge is counted as its own piece. At first no piece is.
use Rattle.std.proofs.Common.{◌≡◌, ap, sym, ◌∙◌, length, get_or, length-append, add-one, rules, arith}
use mathlib.Core.List.{flat_map}
use Rattle.table_sides.specs.Numbered.{number_in}
use Rattle.table_count.specs.Counting.{first_pieces}
use Rattle.table_count.proofs.Ranked.{number_within}
use Rattle.table_count.proofs.Pieces.{first_few}
use Rattle.table_trim.proofs.Stepped.{stepped}
use Rattle.table_tally.proofs.Direct.{tallied_none, counted_more}
use Rattle.table_tally.proofs.count_edges.Goals as goal

pub loop-u-init : goal.loop-u-init
unfolding flat_map
loop-u-init c = record {
  rest_from = search rules;
  rest_to = search rules;
  within = omega arith;
  rank = c.rank-b.ensures;
  counted = λ sides looked n. (tallied_none sides c.args.counts.now n c.requires.2, tt);
}

pub count_edge-requires : goal.count_edge-requires
count_edge-requires c =
    let a = c.args in
    let l = c.loop-u in
    let i = length l.yielded in
    let n : length l.counts ≡ length c.requires.0.0 = l.auto.counts ∙ c.requires.0.2 in (
      record {
        sides = c.requires.0.0;
        looked = c.requires.0.1;
        counted = first_pieces a.corners.now a.from.now a.to.now i;
        tallied = (l.invariant.counted c.requires.0.0 c.requires.0.1 n).0;
        few = λ e. omega (arith, first_few a.corners.now a.from.now a.to.now c.requires.1.as_many i l.invariant.within e, c.requires.1.few);
      },
      omega (arith, c.rank_after-a.ensures, number_within c.in-Some.field-0-0.now a.corners.now),
      omega (arith, c.rank-b-in-loop-u.ensures, number_within c.in-Some.field-0-1.now a.corners.now),
    )

pub loop-u-preserved : goal.loop-u-preserved
loop-u-preserved c =
    let a = c.args in
    let l = c.loop-u in
    let i = length l.yielded in
    let s = c.in-Some.ensures.steps in
    let u = stepped a.from.now _ i _ (sym l.invariant.rest_from ∙ s.0) in
    let v = stepped a.to.now _ i _ (sym l.invariant.rest_to ∙ s.1) in
    rw length-append (record {
      rest_from = u.2;
      rest_to = v.2;
      within = omega arith;
      rank = c.rank-b-in-loop-u.ensures;
      counted = λ sides looked n.
          let h = l.invariant.counted sides looked (sym c.count_edge.auto.counts ∙ n) in
          let d = c.if-not-count_edge.ensures sides (first_pieces a.corners.now a.from.now a.to.now i) (get_or a.from.now i 0) (get_or a.to.now i 0) looked h.0 (c.rank_after-a.ensures ∙ ap (λ p. number_in p a.corners.now) u.1) (c.rank-b-in-loop-u.ensures ∙ ap (λ q. number_in q a.corners.now) v.1) in
          rw add-one (counted_more sides a.corners.now a.from.now a.to.now c.requires.1.as_many i c.count_edge.new.counts u.0 d.only d.on_side d.tallied h.1);
    })
