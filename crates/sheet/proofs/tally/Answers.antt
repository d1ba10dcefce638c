-- The number is stored where it stands.
use Rattle.sheet.proofs.Shown.{shows_tally}
use Rattle.sheet.proofs.tally.Goals as goal

pub returns-then-b : goal.returns-then-b
returns-then-b c = λ t out h. shows_tally out t _ _ _ _ h c.if-b.true c.put.ensures
