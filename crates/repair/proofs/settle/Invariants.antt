-- The first t numbers are those of their sets. Assumes nothing.
use Rattle.std.proofs.Common.{◌≡◌, ℕ, ◌<◌, get_or}
use Rattle.owners_marks.specs.Sets.{standing_of}
use Rattle.repair.specs.Repair.{settled_by}
use Rattle.repair.proofs.settle.Given as goal

abbrev pub invariant-loop-t : goal.invariant-loop-t
invariant-loop-t l = (i : ℕ) → i < l.t → get_or l.numbers i 0 ≡ settled_by (standing_of (get_or l.sets i 0))
