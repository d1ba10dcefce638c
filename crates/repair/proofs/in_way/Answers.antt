-- The settled numbers stand at the front of the work list and, where there is an owner at all, in the owners, which then are the numbers given.
-- Assumes nothing.
use Rattle.std.proofs.Common.{arith, ◌≤◌, map, false, replicate, length, sym, ◌∙◌, ap, subst}
use lib.Seq.{length-take-le}
use Rattle.whole.specs.Sums.{All}
use Rattle.owners_marks.specs.Sets.{owners_of}
use Rattle.repair_regions.specs.Spreading.{Paired}
use Rattle.repair_longest.specs.Held.{TableIn}
use Rattle.repair.specs.Giving.{numbered}
use Rattle.repair.proofs.Filling.{all_small}
use Rattle.repair.proofs.Giving.{first_zero, laid_front, length_front, unmarked_front, nobody_owns, not_all_given, all_are_given}
use Rattle.repair.proofs.in_way.Goals as goal

pub returns-then-none_owned : goal.returns-then-none_owned
returns-then-none_owned c =
    let a = c.args in
    nobody_owns _ a.opposite.now (map owners_of a.sets.now) (laid_front a.sets.now _ _ c.settle.ensures)
    (sym c.none_owned.ensures ∙ c.if-none_owned.true)

pub give_all-requires : goal.give_all-requires
give_all-requires c =
    let a = c.args in
    let n = length a.sets.now in
    let long = length_front a.sets.now _ _ c.settle.ensures in
    let front = laid_front a.sets.now _ _ c.settle.ensures in (
      subst (Paired a.opposite.now) (sym long) c.requires.0,
      subst (TableIn a.table.now) (sym long) c.requires.3,
      subst (All (λ x. x ≤ 64)) (sym front) (all_small a.sets.now),
      omega (arith, long, c.requires.2),
      unmarked_front n 1024 c.requires.2 ∙ ap (λ k. replicate k false) (sym long),
      length-take-le n _ (omega (arith, c.requires.2)) ∙ sym long,
      c.settle-2.ensures ∙ sym front,
    )

pub returns-in-Some : goal.returns-in-Some
returns-in-Some c =
    let a = c.args in
    not_all_given _ a.opposite.now (map owners_of a.sets.now) (laid_front a.sets.now _ _ c.settle.ensures)
    (sym c.none_owned.ensures ∙ c.if-none_owned.false) c.give_all.ensures
    (ap numbered c.first_ungiven.ensures.first ∙ first_zero c.give_all.new.owners) c.in-Some.is (omega arith)

pub returns-in-None : goal.returns-in-None
returns-in-None c =
    let a = c.args in
    all_are_given _ a.opposite.now (map owners_of a.sets.now) (laid_front a.sets.now _ _ c.settle.ensures)
    (sym c.none_owned.ensures ∙ c.if-none_owned.false) c.give_all.ensures
    (ap numbered c.first_ungiven.ensures.first ∙ first_zero c.give_all.new.owners) c.in-None.is
