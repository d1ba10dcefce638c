-- For each of the first i codes the number laid down is that of the last side with the code turned.
use Rattle.std.proofs.Common.{◌≡◌, ℕ, ◌<◌, length, get_or}
use Rattle.table_sides.specs.Codes.{turned}
use Rattle.table_sides.specs.Chains.{Last}
use Rattle.table_chains.proofs.along_chains.Given as goal

abbrev pub invariant-loop-i : goal.invariant-loop-i
invariant-loop-i l = (j : ℕ) → j < l.i → Last (λ m. get_or l.codes m 0 ≡ turned (get_or l.codes j 0)) (length l.codes) (get_or l.opposite j 0)
