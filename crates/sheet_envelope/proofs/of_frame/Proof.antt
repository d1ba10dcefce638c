-- `sheet_envelope::of_frame` meets its contract: each bound as a double. Assumes nothing.
use borrow.Author.Rules.{rules}
use Rattle.sheet_envelope.proofs.of_frame.Statement.{statement}
use Rattle.sheet_envelope.proofs.of_frame.Tie as tie

returns : tie.Need-returns
returns c = cc

pub of_frame_spec : {M : Type 1} → statement M
of_frame_spec = tie.close (tie.spec (λ c κs. search rules) (λ c κs. search rules) (λ c κs. search rules) (λ c κs. search rules) returns)
