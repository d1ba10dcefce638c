-- Where there is an envelope it is compared with the frame of the table.
use Rattle.std.proofs.Common.{◌∙◌, ap}
use Rattle.sheet_envelope.specs.Envelope.{agrees}
use Rattle.sheet_framed.proofs.framed.Goals as goal

pub returns-else-is_none : goal.returns-else-is_none
returns-else-is_none c = λ limit n h. c.agrees.ensures ∙ ap (agrees c.args.envelope) (c.frame.ensures.1 limit n h)
