-- Where nothing stands around a sheet there is no envelope, and so it agrees.
use Rattle.std.proofs.Common.{rules, ◌≡◌, ◌∙◌, ap, Option, None, Some, MatchOption}
use Rattle.sheet_form.specs.Numbers.{Sheet}
use Rattle.sheet_envelope.specs.declared.Envelope.{Envelope}
use Rattle.sheet_envelope.specs.Envelope.{agrees}
use Rattle.sheet_blob.specs.declared.Opened.{Opened}
use Rattle.sheet_framed.specs.Framed.{frame_on}
use Rattle.sheet_modes.specs.Modes.{framed}
use Rattle.sheet_modes.specs.Held.{around_of}
use Rattle.sheet_modes.proofs.framed.Goals as goal

agreeing : (Q : Opened → Type 0) (a : Option Opened) (e : Option Envelope) (n : Sheet) → MatchOption a (e ≡ None) Q → ((h : Opened) → Q h → e ≡ h.envelope) → agrees e (frame_on n) ≡ framed (around_of a) n
agreeing Q None e n m told = ap (λ (e : Option Envelope). agrees e (frame_on n)) m
agreeing Q (Some h) e n m told = ap (λ (e : Option Envelope). agrees e (frame_on n)) (told h m)

pub returns : goal.returns
returns c = λ limit n held. c.framed.ensures limit n held ∙ agreeing _ c.args.around c.and_then.result n c.and_then.ensures (λ h p. search rules)
