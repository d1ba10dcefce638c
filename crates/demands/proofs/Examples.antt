-- Document 01's starred examples: one table, one claim. Assumes nothing.
use mathlib.Core.Path.{◌≡◌}
use mathlib.Core.List.{map}
use Rattle.owners.specs.Examples.{answer, examples, answers}
use Rattle.owners.proofs.Examples.{starred as by_computing}

-- Examples 1 to 10 have document 01's answers.
pub starred : map answer examples ≡ answers
starred = by_computing
