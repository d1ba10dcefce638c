-- Edges that are sides of the table, or the reverse of one, with no corner inside: such an edge is its only piece, and is counted at once.
use Rattle.std.specs.Prelude.{◌≡◌, ◌⊎◌, Bool, false, cond, List, [], ◌∷◌, ◌++◌, ℕ, zero, suc, ◌+◌, ◌-◌, ◌≤◌, ltb, get_or, set}
use Rattle.whole.specs.Sums.{All, Among, count}
use Rattle.plane.specs.Points.{Edge, flip, same_edge}
use Rattle.plane.specs.Cuts.{pieces}
use Rattle.plane.specs.Keys.{pair, points_at}
use Rattle.table_sides.specs.Chains.{clear_in}
use Rattle.table_count.specs.Counting.{Looked, Tallied}

-- It is noted of the side with a number, counted from 1, that no corner is inside it.
abbrev pub noted_at : List ℕ → ℕ → Bool
noted_at index zero = false
noted_at index (suc k) = ltb 0 (clear_in (get_or index k 0))

-- One more, or one less, at the side with a number counted from 1; nothing changes where the number is 0.
abbrev pub added : List ℕ → ℕ → Bool → List ℕ
added counts zero up = counts
added counts (suc k) up = set counts k (cond up (get_or counts k 0 + 1) (get_or counts k 0 - 1))

-- The pair is a side, or the reverse of one.
abbrev pub OnSide : List Edge → Edge → Type 0
OnSide sides e = Among same_edge e sides ⊎ Among same_edge (flip e) sides

-- The edge from u to v is its only piece, and is a side or the reverse of one; and it is counted besides the pairs l.
pub record Direct (sides : List Edge) (corners : List ℕ) (l : List Edge) (u v : ℕ) (counts : List ℕ) : Type 0 where
  pub only : pieces (points_at corners) (pair u v) ≡ pair u v ∷ []
  pub on_side : OnSide sides (pair u v)
  pub tallied : Tallied sides (l ++ pair u v ∷ []) counts

-- The counts are those of some pairs, none more often than 4,096 times, so that there is room for one more.
pub record Countable (corners index counts : List ℕ) : Type 0 where
  pub sides : List Edge
  pub looked : Looked sides corners index
  pub counted : List Edge
  pub tallied : Tallied sides counted counts
  pub few : (e : Edge) → count same_edge e counted ≤ 4096

-- The pieces l are counted, and each of them is a side or the reverse of one.
abbrev pub Counted : List Edge → List Edge → List ℕ → Type 0
Counted sides l counts = Tallied sides l counts × All (OnSide sides) l
