-- What a sheet comes to by its polygons: refused for the first, in number order, that no set of triangles carries or that has no ground, or else their sets as
-- bits.
use Rattle.std.specs.Prelude.{◌≡◌, Bool, false, List, [], ℕ, ◌-◌, ◌^◌, ◌/◌, ◌%◌, ◌≤◌, ◌<◌, length, get_or}
use Rattle.whole.specs.Sums.{bit}
use Rattle.plane.specs.Points.{Triangle}
use Rattle.plane.specs.Members.{Member}
use Rattle.table.specs.Sets.{SetOf}
use Rattle.owners.specs.Judging.{Carries, Groundless}

-- Some set of triangles has the member's boundary as its own; no set has it.
abbrev pub SomeSet : List Triangle → Member → Type 0
SomeSet table m = (s : List Bool) × SetOf table s × Carries table s m

abbrev pub NoSet : List Triangle → Member → Type 0
NoSet table m = (s : List Bool) → SetOf table s → Carries table s m → ⊥

-- The polygon of a number, the first being number 1.
abbrev pub polygon : List Member → ℕ → Member
polygon polygons k = get_or polygons (k - 1) []

-- The polygon is refused neither way: some set carries it, and it has ground.
abbrev pub Sound : List Triangle → Member → Type 0
Sound table m = SomeSet table m × (Groundless table m → ⊥)

abbrev pub EachSound : List Triangle → List Member → Type 0
EachSound table polygons = (k : ℕ) → 1 ≤ k → k ≤ length polygons → Sound table (polygon polygons k)

-- Polygon k is on the sheet, it has the fault, and each polygon before it is refused neither way.
pub record FirstFaulty (Fault : List Triangle → Member → Type 0) (table : List Triangle) (polygons : List Member) (k : ℕ) : Type 0 where
  pub low : 1 ≤ k
  pub high : k ≤ length polygons
  pub fault : Fault table (polygon polygons k)
  pub before : (j : ℕ) → 1 ≤ j → j < k → Sound table (polygon polygons j)

-- The bits of polygon k in the owner sets are the marks of a set: bit k-1 of a triangle's owner set is 1 where the triangle is marked, else 0.
abbrev pub BitsAre : List ℕ → ℕ → List Bool → Type 0
BitsAre sets k marks = (t : ℕ) → t < length marks → get_or sets t 0 / 2 ^ (k - 1) % 2 ≡ bit (get_or marks t false)
