-- How the code's answer shows what a held sheet comes to by the table rules and the judging of its polygons.
use Rattle.std.specs.Prelude.{◌≡◌, Bool, List, Result, Ok, Err, ℕ, ◌*◌, length, take}
use Rattle.std.proofs.Math.Option.{Option}
use Rattle.plane.specs.Points.{Triangle}
use Rattle.plane.specs.Boundaries.{sides_of}
use Rattle.lent.specs.Stages.{and_then}
use Rattle.lent.specs.declared.Refusal.{Refusal}
use Rattle.table.specs.Opposites.{opposites}
use Rattle.table_neighbours.specs.Neighbours.{indexed}
use Rattle.sheet_form.specs.Numbers.{Sheet}
use Rattle.judged_sets.specs.Owning.{held_sets, owned_as, OneEach}
use Rattle.judged.specs.Judged.{check_framed}

-- Beside owner sets the number of the reverse of each side of the table stands in a list.
abbrev pub Crossed : Result ℕ Refusal → List Triangle → List ℕ → Type 0
Crossed (Ok n) table opposite = take (3 * n) opposite ≡ opposites (sides_of table)
Crossed (Err r) table opposite = Unit {0}

-- The answer with the two lists is what the sheet comes to: the table rules, the envelope, an index that is lent, and then the polygons.
pub record OwnedOf (index : Option (List ℕ)) (whole : Bool) (n : Sheet) (r : Result ℕ Refusal) (opposite l : List ℕ) : Type 0 where
  pub is : owned_as r l ≡ and_then (check_framed whole n) (λ _. and_then (indexed index n.table) (λ _. held_sets n.table n.polygons))
  pub each : OneEach r (length n.table)
  pub crossed : Crossed r n.table opposite
