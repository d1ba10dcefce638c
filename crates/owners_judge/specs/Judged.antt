-- The answer of the code that judges one member, with its labels, as an answer of the judging.
use Rattle.std.specs.Prelude.{Bool, List, Result, Ok, Err}
use Rattle.owners_judge.specs.declared.Unowned.{Unowned}
use Rattle.owners_judge.specs.declared.Unowned.TheVariants.{NotCarried, NoGround}
use Rattle.owners.specs.Judging.{Judged, carried, not_carried, no_ground}

-- The answer with the labels: carried by the labelled set, not carried, or no ground.
abbrev pub judged_of : Result (Unit {0}) Unowned → List Bool → Judged
judged_of (Ok u) labels = carried labels
judged_of (Err NotCarried) labels = not_carried
judged_of (Err NoGround) labels = no_ground
