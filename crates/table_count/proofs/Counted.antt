-- Counts at the sides, and the boundary they are. Assumes nothing.
use mathlib.Core.Path.{◌≡◌}
use mathlib.Core.List.{List}
use Prim.Native.Nat.{ℕ, ◌+◌, ◌<◌}
use lib.ListN.{length, get_or}
use Rattle.whole.specs.Sums.{count, net}
use Rattle.plane.specs.Points.{Edge, flip, same_edge}
use Rattle.table.proofs.Nets.{net_is}
use Rattle.table_count.specs.Counting.{side_of, Tallied}

-- How often a pair stands in a list.
abbrev # : Edge → List Edge → ℕ
# = count same_edge

-- ---- counts and boundaries
module _ (sides l : List Edge) (counts : List ℕ) where
  pub tallied_sum : Tallied sides l counts → (k : ℕ) → k < length sides → get_or counts k 0 + # (flip (side_of sides k)) l ≡ 2147483648 + # (side_of sides k) l
  unfolding net
  tallied_sum h k m = (net_is (get_or counts k 0) (# (flip (side_of sides k)) l) (# (side_of sides k) l)).1 (h.nets k m)

  pub tallied_from : length counts ≡ length sides → ((k : ℕ) → k < length sides → get_or counts k 0 + # (flip (side_of sides k)) l ≡ 2147483648 + # (side_of sides k) l) → Tallied sides l counts
  unfolding net
  tallied_from n h = record { number = n; nets = λ k m. (net_is (get_or counts k 0) (# (flip (side_of sides k)) l) (# (side_of sides k) l)).0 (h k m) }
