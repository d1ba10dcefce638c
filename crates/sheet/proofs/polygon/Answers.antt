-- The two changes one after the other.
use Rattle.sheet.proofs.polygon.Goals as goal

pub returns : goal.returns
returns c = (c.push.ensures.0, λ t out h. c.push.ensures.1 _ out (c.tally.ensures t out h))
