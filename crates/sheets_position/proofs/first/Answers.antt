-- A number has four bytes.
use Rattle.std.proofs.Common.{length, sym, ap, ◌∙◌}
use Rattle.lent_little.proofs.Ordered.{length_bytes}
use Rattle.sheet_modes.specs.Held.{around_of}
use Rattle.outcomes.specs.Entries.{first_of}
use Rattle.sheets_position.proofs.first.Goals as goal

pub returns-in-Some : goal.returns-in-Some
returns-in-Some c = sym (ap (λ a. length (first_of (around_of a))) c.in-Some.is ∙ length_bytes 4 _)
