-- The number of a thing in a list of numbers.
use Rattle.std.specs.Prelude.{cond, List, [], ◌∷◌, ℕ, eqb}
use Rattle.table.specs.Opposites.{later}

-- The number, counted from 1, of the first in a list that is c; 0 where there is none.
abbrev pub number_in : ℕ → List ℕ → ℕ
number_in c [] = 0
number_in c (x ∷ l) = cond (eqb x c) 1 (later (number_in c l))
