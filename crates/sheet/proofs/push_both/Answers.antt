-- One number after the other.
use Rattle.std.proofs.Common.{arith}
use Rattle.sheet.proofs.push_both.Goals as goal

pub returns : goal.returns
returns c = (omega (arith, c.push-2.ensures.0, c.push.ensures.0), λ t out h. c.push-2.ensures.1 _ out (c.push.ensures.1 t out h))
