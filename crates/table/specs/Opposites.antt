-- What stands across a side: the side that is its reverse, by its number among the table's sides, by triangle and then ab, bc, ca.
use Rattle.std.specs.Prelude.{cond, List, [], ◌∷◌, map, ℕ, zero, suc}
use Rattle.plane.specs.Points.{Edge, flip, same_edge}

-- The number, counted from 1, of the first pair of a list that is e; 0 where there is none.
abbrev pub later : ℕ → ℕ
later zero = 0
later (suc n) = suc (suc n)

abbrev pub found_at : Edge → List Edge → ℕ
found_at e [] = 0
found_at e (x ∷ l) = cond (same_edge x e) 1 (later (found_at e l))

-- For each side the number of the side that is its reverse, 0 where the table has none: the triangle across it is that side's.
unfoldable pub opposites : List Edge → List ℕ
opposites sides = map (λ e. found_at (flip e) sides) sides
