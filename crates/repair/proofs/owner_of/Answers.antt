-- A settled number is a byte. Assumes nothing.
use Rattle.std.proofs.Common.{arith, ◌≡◌, ap, sym, ◌∙◌}
use mathlib.Core.Logic.{inl, inr}
use Rattle.owners_marks.specs.Sets.{standing_of}
use Rattle.repair.specs.Repair.{settled_by}
use Rattle.repair.proofs.Filling.{settled_small}
use Rattle.repair.proofs.owner_of.Goals as goal

pub overflow_cast-result : goal.overflow_cast-result
overflow_cast-result c =
    let e : c.in-Single.k ≡ settled_by (standing_of c.args.set) =
    elim c.in-Single.is [ inl f ↦ ap settled_by (sym f ∙ c.standing_of.ensures) | inr f ↦ ap settled_by (sym f ∙ c.standing_of.ensures) ]
    in
    omega (arith, settled_small c.args.set)
