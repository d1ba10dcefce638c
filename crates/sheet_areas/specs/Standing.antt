-- A thing of the numbers form stands among held numbers, and its double area is summed up.
use Rattle.std.specs.Prelude.{◌≡◌, List, map, ℕ, ◌+◌, ◌*◌, ◌≤◌, ℤ, length, take, drop}
use Rattle.whole.specs.Numbers.{Within}
use Rattle.whole.specs.Sums.{All, sum}
use Rattle.plane.specs.Points.{Edge, cross}
use Rattle.plane.specs.Corners.{millimetres}
use Rattle.plane.specs.Keys.{Held}
use Rattle.sheet_edges.specs.Standing.{NumbersAt}
use Rattle.sheet_areas.specs.declared.Summed.{Summed}

-- A thing that fits, with at most 4,096 edges, stands at the place, and every number up to its end is one of a coordinate.
pub record Place {A : Type 0} (f : A → List ℤ) (e : A → List Edge) (Fit : A → Type 0) (numbers : List ℕ) (at : ℕ) : Type 0 where
  pub thing : A
  pub rest : List ℤ
  pub fits : Fit thing
  pub few : length (e thing) ≤ 4096
  pub numbers_at : NumbersAt f numbers at thing rest
  pub held : All Held (take (at + length (f thing)) numbers)

-- Of the thing that stands at the place, whichever it is, r has the double area, the sum over its edges, and the place behind it. It is no larger than one product
-- for each edge can make it.
pub record Sums {A : Type 0} (f : A → List ℤ) (e : A → List Edge) (Fit : A → Type 0) (numbers : List ℕ) (at : ℕ) (r : Summed) : Type 0 where
  pub reads : (a : A) (rest : List ℤ) → Fit a → All Held (take (at + length (f a)) numbers) → NumbersAt f numbers at a rest
      → (r.area ≡ sum cross (e a)) × Within (400_000_000_000_000 * length (e a)) r.area × (map millimetres (drop r.next numbers) ≡ rest) × (r.next ≡ at + length (f a))
