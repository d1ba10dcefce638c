-- `repair_regions::collect` meets its contract: t is taken in, and spread from. Assumes nothing.
use Rattle.repair_regions.proofs.Spreading.{may_take, starts_with, grown_more, fresh_more, in_region}
use borrow.Author.Rules.{rules}
use Rattle.repair_regions.proofs.collect.Statement.{statement}
use Rattle.repair_regions.proofs.collect.Tie as tie

meet_requires : tie.Need-meet-start-requires
meet_requires c κs = let s = c in may_take s.requires.1 _ s.requires.3

spreads_requires : tie.Need-spreads-requires
spreads_requires c κs =
    let s = c in
    let k = starts_with s.args.opposite.now s.requires.0 s.requires.1 s.requires.2 s.args.t s.requires.3 c.meet-start.ensures in
    (s.requires.0, k.0.meeting, k.1, s.requires.3, k.0.more, in_region s.args.t k.0 k.2)

same_length : tie.Need-shape_of-met
same_length c = search rules

same_length_2 : tie.Need-shape_of-group
same_length_2 c = search rules

returns : tie.Need-returns
returns c =
    let s = c in
    let k = starts_with s.args.opposite.now s.requires.0 s.requires.1 s.requires.2 s.args.t s.requires.3 c.meet-start.ensures in
    let a = c.spreads.ensures in
    (grown_more k.0 a.0, a.1, fresh_more s.args.t k.2 a.2, λ z. a.0.still _ (k.3 z))

pub collect_spec : {M : Type 1} → statement M
collect_spec =
    tie.close (tie.spec meet_requires spreads_requires same_length same_length_2 returns)
