-- The double areas of a sheet's triangles, as the code holds them.
use Rattle.std.specs.Prelude.{◌≡◌, List, map, ℕ, ◌≤◌, pos}
use Rattle.whole.specs.Sums.{All}
use Rattle.plane.specs.Points.{double}
use Rattle.sheet_form.specs.Numbers.{Sheet}

-- The double areas of the sheet's triangles.
pub record AreasOf (n : Sheet) (areas : List ℕ) : Type 0 where
  pub are : map pos areas ≡ map double n.table
  pub small : All (λ a. a ≤ 800_000_000_000_000) areas
