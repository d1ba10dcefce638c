-- The numbers of all sets are the settled ones. Assumes nothing.
use Rattle.std.proofs.Common.{arith, map, ◌∙◌, sym}
use lib.ListN.{length-map}
use lib.Seq.{ext_get_or}
use Rattle.owners_marks.specs.Sets.{owners_of}
use Rattle.repair.specs.Repair.{settled}
use Rattle.repair.proofs.OneOwner.{length_settled}
use Rattle.repair.proofs.Filling.{settled_set}
use Rattle.repair.proofs.settle.Goals as goal

pub returns : goal.returns
returns c =
    let l = c.loop-t in
    let sets = c.args.sets.now in
    ext_get_or 0 l.numbers (settled (map owners_of sets)) (omega (arith, length_settled (map owners_of sets), length-map sets owners_of))
    (λ i h. l.invariant i (omega arith) ∙ sym (settled_set sets i (omega arith)))
