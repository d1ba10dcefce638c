-- What lists of owners are like: numbers of polygons in ascending order.
use Rattle.std.specs.Prelude.{List, [], ◌∷◌, ℕ, ◌≤◌, ◌<◌}
use Rattle.whole.specs.Sums.{All}

-- Each number is below all that follow.
abbrev pub Ascending : List ℕ → Type 0
Ascending [] = Unit {0}
Ascending (k ∷ l) = All (λ j. k < j) l × Ascending l

-- The owners of each triangle are numbers of polygons, which begin at 1, in ascending order.
pub record OwnersListed (owners : List (List ℕ)) : Type 0 where
  pub numbered : All (All (λ k. 1 ≤ k)) owners
  pub ascending : All Ascending owners
