-- At first nothing is met, and in the end all gaps are. Assumes nothing.
use Rattle.std.proofs.Common.{arith}
use Rattle.repair.proofs.Giving.{none_given, all_given}
use Rattle.repair.proofs.give_all.Goals as goal

pub loop-t-init : goal.loop-t-init
loop-t-init c = (none_given _ _ _ c.requires.4 c.requires.5 c.requires.6, λ u h. absurd (omega arith))

pub returns : goal.returns
returns c = let l = c.loop-t in all_given l.invariant.0 (λ u h. l.invariant.1 u (omega arith))
