-- What a table comes to by its triangles: it passes the three rules, or the first triangle, in table order, that breaks a rule is named.
use Rattle.std.specs.Prelude.{ℕ, ◌-◌, ◌≤◌, ◌<◌, pos, length, get_or, ◌<ℤ◌, List}
use Rattle.whole.specs.Sums.{Among}
use Rattle.plane.specs.Points.{Edge, Triangle, sides, same_edge, double}
use Rattle.table.specs.Table.{frame_edges, RuleA, RuleB, RuleC}
use Rattle.sheet_written.specs.Fits.{origin}

-- The table passes the three rules.
abbrev pub Passes : List Triangle → Type 0
Passes table = RuleA table × RuleB table × RuleC (frame_edges table) table

-- The triangle of a number, the first being number 1.
abbrev pub triangle : List Triangle → ℕ → Triangle
triangle table k = get_or table (k - 1) (record { a = origin; b = origin; c = origin })

-- The double area of triangle k is not above 0.
abbrev pub NoArea : List Triangle → ℕ → Type 0
NoArea table k = (pos 0 <ℤ double (triangle table k)) → ⊥

-- Triangle k has a side of an earlier one.
abbrev pub RepeatsSide : List Triangle → ℕ → Type 0
RepeatsSide table k = (j : ℕ) × (1 ≤ j) × (j < k) × (e : Edge) × Among same_edge e (sides (triangle table j)) × Among same_edge e (sides (triangle table k))

-- Triangle k is on the table, something holds of it, and of no triangle before it.
pub record First (Of : List Triangle → ℕ → Type 0) (table : List Triangle) (k : ℕ) : Type 0 where
  pub low : 1 ≤ k
  pub high : k ≤ length table
  pub holds : Of table k
  pub before : (j : ℕ) → 1 ≤ j → j < k → Of table j → ⊥
