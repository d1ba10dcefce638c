-- What is kept: the pair stands at no place from k on.
use Rattle.std.proofs.Common.{◌≡◌, ℕ, ◌≤◌, ◌<◌, get_or}
use Rattle.table_loose.proofs.place_of.Given as goal

abbrev pub invariant-loop-k : goal.invariant-loop-k
invariant-loop-k l = (l.k ≤ l.n) × ((j : ℕ) → l.k ≤ j → j < l.n → get_or l.us j 0 ≡ l.u → get_or l.vs j 0 ≡ l.v → ⊥)

abbrev pub decreases-loop-k : goal.decreases-loop-k
decreases-loop-k l = l.k
