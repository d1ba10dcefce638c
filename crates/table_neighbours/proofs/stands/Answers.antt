-- `table_neighbours::stands` meets its contract: the first byte differs, or the second tells. Assumes nothing.
use Rattle.std.proofs.Common.{sym}
use Rattle.table_neighbours.proofs.Same.{first_other, second_tells}
use Rattle.table_neighbours.proofs.stands.Goals as goal

pub returns-then-index-at : goal.returns-then-index-at
returns-then-index-at c = sym (first_other _ _ _ c.if-index-at.true)

pub returns : goal.returns
returns c = sym (second_tells _ _ _ c.if-index-at.false)
