-- What is at a point: the owner after repair, as the item.
use Rattle.std.specs.Prelude.{List, [], ℕ, ◌-◌, get_or}
use Rattle.std.proofs.Math.Option.{Option, none, some}
use Rattle.lent.specs.Stages.{refused}
use Rattle.lent.specs.Answered.{Outcome, bytes}

-- The owner number of the triangle that was found, counted from 1, as the item, and no bytes; 55 where none was.
abbrev pub owner_there : Option ℕ → List ℕ → Outcome
owner_there none owners = refused 55 0
owner_there (some k) owners = bytes (get_or owners (k - 1) 0) []
