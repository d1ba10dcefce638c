-- Pairs that come one by one: a pair is open until its reverse comes.
use Rattle.std.specs.Prelude.{◌≡◌, cond, List, [], ◌∷◌, ◌++◌, ℕ, ◌≤◌, ◌<◌, eqb, get_or}
use Rattle.whole.specs.Sums.{Among, count}
use Rattle.plane.specs.Points.{Edge, flip, same_edge}
use Rattle.plane.specs.Boundaries.{SameBoundary}
use Rattle.plane.specs.Keys.{pair}

-- The pair from u to v; none where u is v.
abbrev pub way : ℕ → ℕ → List Edge
way u v = cond (eqb u v) [] (pair u v ∷ [])

-- No pair stands there with its reverse.
abbrev pub Apart : List Edge → Type 0
Apart l = (e : Edge) → Among same_edge e l → count same_edge (flip e) l ≡ 0

-- The pairs that are open once the pairs l have come, and those that were open before: their boundary is the same, each of them came or was open, and none is open
-- with its reverse.
pub record Came (l before after : List Edge) : Type 0 where
  pub boundary : SameBoundary after (l ++ before)
  pub from_there : (e : Edge) → count same_edge e after ≤ count same_edge e (l ++ before)
  pub apart : Apart before → Apart after

-- None of the first n numbers is u; one of them is.
abbrev pub WithoutTo : List ℕ → ℕ → ℕ → Type 0
WithoutTo us u n = (j : ℕ) → j < n → get_or us j 0 ≡ u → ⊥

abbrev pub WithTo : List ℕ → ℕ → ℕ → Type 0
WithTo us u n = (j : ℕ) × (j < n) × (get_or us j 0 ≡ u)
