-- The boundary of edges, cut at the table's corners, counted at each side of the table; the pieces that are no sides must cancel.
use Rattle.std.specs.Prelude.{◌≡◌, ◌⊎◌, List, ℕ, ◌≤◌, ◌<◌, T, pos, length, get_or, take}
use Rattle.whole.specs.Sums.{All, Among}
use Rattle.plane.specs.Points.{Point, Edge, flip, same_point, same_edge, between}
use Rattle.plane.specs.Cuts.{all_pieces}
use Rattle.plane.specs.Boundaries.{boundary}
use Rattle.plane.specs.Keys.{point_at, Key, pair, pairs, points_at}
use Rattle.table.specs.Sides.{net_of}
use Rattle.table.specs.Opposites.{found_at}
use Rattle.whole_order.specs.Ascending.{Ascending, IsIn}
use Rattle.table_sides.specs.Codes.{code_of}
use Rattle.table_sides.specs.Chains.{code_in, clear_in, Last, Chained}

-- ---- how corners and sides are looked up
-- Side k of a list.
abbrev pub side_of : List Edge → ℕ → Edge
side_of sides k = get_or sides k (pair 0 0)

-- The corners are ascending, and the chains of the index find each ordered pair of corners among the sides, of which none stands twice; all sides are pairs of these
-- corners. Where the index says so of a side, no corner is strictly inside it.
pub record Looked (sides : List Edge) (corners index : List ℕ) : Type 0 where
  pub chained : Chained index
  pub as_many : length index ≡ length sides
  pub room : length corners ≤ length index
  pub ascending : Ascending corners
  pub few : length corners ≤ 3072
  pub in_range : All Key corners
  pub once : (j k : ℕ) → j < length sides → k < length sides → side_of sides j ≡ side_of sides k → j ≡ k
  pub found : (u v r : ℕ) → IsIn u corners → IsIn v corners → Last (λ j. code_in (get_or index j 0) ≡ code_of corners u v) (length index) r → r ≡ found_at (pair u v) sides
  pub no_from : (u v : ℕ) → (IsIn u corners → ⊥) → found_at (pair u v) sides ≡ 0
  pub no_to : (u v : ℕ) → (IsIn v corners → ⊥) → found_at (pair u v) sides ≡ 0
  pub clear : (k : ℕ) → k < length sides → 0 < clear_in (get_or index k 0) → (c : Point) → Among same_point c (points_at corners) → T (between c (side_of sides k)) → ⊥

-- ---- the pieces of an edge, one after the other
-- r is the place of the first corner from `at` on that is strictly between u and v; the number of corners where there is none.
pub record NextStop (corners : List ℕ) (at u v r : ℕ) : Type 0 where
  pub within : r ≤ length corners
  pub onward : at ≤ r
  pub stop : r < length corners → T (between (point_at (get_or corners r 0)) (pair u v))
  pub first : (j : ℕ) → at ≤ j → j < r → T (between (point_at (get_or corners j 0)) (pair u v)) → ⊥

-- No corner is strictly between u and v.
abbrev pub ClearOf : List ℕ → ℕ → ℕ → Type 0
ClearOf corners u v = (c : Point) → Among same_point c (points_at corners) → T (between c (pair u v)) → ⊥

-- The edges of two lists of corners, and their pieces.
abbrev pub pieces_of : List ℕ → List ℕ → List ℕ → List Edge
pieces_of corners from to = all_pieces (points_at corners) (pairs from to)

-- The pieces of the first i edges.
abbrev pub first_pieces : List ℕ → List ℕ → List ℕ → ℕ → List Edge
first_pieces corners from to i = pieces_of corners (take i from) (take i to)

-- Edges from the corners of one list to those of another: at most 4,096, as many as a sheet has polygon points.
pub record Edged (from to : List ℕ) : Type 0 where
  pub from_keys : All Key from
  pub to_keys : All Key to
  pub as_many : length to ≡ length from
  pub few : length from ≤ 4096

-- ---- what is counted
-- The counts are the boundary of the pairs l at each side.
pub record Tallied (sides l : List Edge) (counts : List ℕ) : Type 0 where
  pub number : length counts ≡ length sides
  pub nets : (k : ℕ) → k < length sides → net_of (get_or counts k 0) ≡ boundary l (side_of sides k)

-- Each pair of l is a side, or the reverse of one, or cancels in p.
abbrev pub Settled : List Edge → List Edge → List Edge → Type 0
Settled sides p l = All (λ e. Among same_edge e sides ⊎ Among same_edge (flip e) sides ⊎ (boundary p e ≡ pos 0)) l

-- A pair that is no side, nor the reverse of one, and doesn't cancel in p.
pub record Stray (sides p : List Edge) : Type 0 where
  pub e : Edge
  pub no_side : Among same_edge e sides → ⊥
  pub no_reverse : Among same_edge (flip e) sides → ⊥
  pub uneven : boundary p e ≡ pos 0 → ⊥
