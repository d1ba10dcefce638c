-- Where no code stands twice, the number laid down for each of the first i codes is that of the code turned.
use Rattle.std.proofs.Common.{◌≡◌, ℕ, ◌<◌, get_or}
use Rattle.whole_order.specs.Ascending.{Distinct}
use Rattle.table_sides.specs.Codes.{turned}
use Rattle.table_sides.specs.Numbered.{number_in}
use Rattle.table_chains.proofs.by_index.Given as goal

abbrev pub invariant-loop-i : goal.invariant-loop-i
invariant-loop-i l = (j : ℕ) → j < l.i → Distinct l.codes → get_or l.opposite j 0 ≡ number_in (turned (get_or l.codes j 0)) l.codes
