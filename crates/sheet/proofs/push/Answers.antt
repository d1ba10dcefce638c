-- The number is stored behind the last.
use Rattle.std.proofs.Common.{refl}
use Rattle.sheet.proofs.Shown.{shows_push}
use Rattle.sheet.proofs.push.Goals as goal

pub returns : goal.returns
returns c = (refl, λ t out h. shows_push out t _ _ _ _ h c.put.ensures)
