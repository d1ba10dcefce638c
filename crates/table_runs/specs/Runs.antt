-- Counting by lines: each count is set once its line is walked, to the net count of all edges.
use Rattle.std.specs.Prelude.{◌≡◌, ◌⊎◌, Bool, true, false, List, ℕ, zero, suc, ◌+◌, ◌-◌, ◌<◌, T, pos, length, get_or, set}
use Rattle.whole.specs.Sums.{Among, count}
use Rattle.table.specs.Sides.{evenly}
use Rattle.plane.specs.Points.{Edge, flip, same_edge}
use Rattle.plane.specs.Boundaries.{boundary}
use Rattle.plane.specs.Cuts.{pieces}
use Rattle.plane.specs.Keys.{pair, points_at}
use Rattle.whole_order.specs.Ascending.{place_of}
use Rattle.table_lines.specs.Lines.{lies, lie, Follow}
use Rattle.table_count.specs.Counting.{side_of, pieces_of}

-- The count at side k, held with 2,147,483,648 more, is the net count of that side among the pairs p.
abbrev pub Right : List Edge → List Edge → List ℕ → ℕ → Type 0
Right sides p counts k = get_or counts k 0 + count same_edge (flip (side_of sides k)) p ≡ evenly + count same_edge (side_of sides k) p

-- The pair is a side, or the reverse of one, or cancels; and where it is one, the count there is right.
pub record Handled (sides p : List Edge) (counts : List ℕ) (e : Edge) : Type 0 where
  pub settled : Among same_edge e sides ⊎ Among same_edge (flip e) sides ⊎ (boundary p e ≡ pos 0)
  pub there : (k : ℕ) → k < length sides → side_of sides k ≡ e → Right sides p counts k
  pub back : (k : ℕ) → k < length sides → side_of sides k ≡ flip e → Right sides p counts k

-- Each count is right, or is still 0.
pub record Open (sides p : List Edge) (counts : List ℕ) : Type 0 where
  pub number : length counts ≡ length sides
  pub each : (k : ℕ) → k < length sides → Right sides p counts k ⊎ (get_or counts k 0 ≡ evenly)

-- What is right stays right.
abbrev pub Kept : List Edge → List Edge → List ℕ → List ℕ → Type 0
Kept sides p before after = (k : ℕ) → k < length sides → Right sides p before k → Right sides p after k

-- The count at the side with a number counted from 1 is set to a difference; nothing changes where the number is 0.
abbrev pub placed : List ℕ → ℕ → ℕ → ℕ → List ℕ
placed counts zero more less = counts
placed counts (suc k) more less = set counts k (evenly + more - less)

-- The last corner of the line before the corner with place k; none where there is none.
pub record Before (corners : List ℕ) (a b k last i : ℕ) : Type 0 where
  pub earlier : i < k
  pub stands : get_or corners i 0 ≡ last
  pub on : T (lies a b last)
  pub latest : (j : ℕ) → i < j → j < k → T (lies a b (get_or corners j 0)) → ⊥

abbrev pub Latest : List ℕ → ℕ → ℕ → ℕ → ℕ → Type 0
Latest corners a b k last = ((i : ℕ) × Before corners a b k last i) ⊎ ((j : ℕ) → j < k → T (lies a b (get_or corners j 0)) → ⊥)

-- What the walk along the line has done, as far as one corner: the counts after, from the counts before.
pub record Met (sides : List Edge) (corners from to : List ℕ) (a b : ℕ) (before after : List ℕ) (v : ℕ) : Type 0 where
  pub still : Open sides (pieces_of corners from to) after
  pub kept : Kept sides (pieces_of corners from to) before after
  pub handled : (u : ℕ) → Follow corners a b u v → Handled sides (pieces_of corners from to) after (pair u v)

-- The sum is even, or the last corner of the line is known.
abbrev pub Ready : List ℕ → ℕ → ℕ → ℕ → ℕ → ℕ → ℕ → Type 0
Ready corners a b k last more less = (more ≡ less) ⊎ Latest corners a b k last

-- What the walk along the line has done before the corner with place k.
pub record Walked (sides : List Edge) (corners from to : List ℕ) (a b : ℕ) (before after : List ℕ) (k : ℕ) : Type 0 where
  pub still : Open sides (pieces_of corners from to) after
  pub kept : Kept sides (pieces_of corners from to) before after
  pub handled : (u v : ℕ) → Follow corners a b u v → place_of v corners < k → Handled sides (pieces_of corners from to) after (pair u v)

-- All pairs of corners that follow one another on the line are handled.
pub record Lined (sides : List Edge) (corners from to : List ℕ) (a b : ℕ) (before after : List ℕ) : Type 0 where
  pub still : Open sides (pieces_of corners from to) after
  pub kept : Kept sides (pieces_of corners from to) before after
  pub handled : (u v : ℕ) → Follow corners a b u v → Handled sides (pieces_of corners from to) after (pair u v)

-- The pieces of edge j are handled.
abbrev pub EdgeHandled : List Edge → List ℕ → List ℕ → List ℕ → List ℕ → ℕ → Type 0
EdgeHandled sides corners from to counts j = (e : Edge) → Among same_edge e (pieces (points_at corners) (pair (get_or from j 0) (get_or to j 0))) → Handled sides (pieces_of corners from to) counts e

-- The first i edges are noted as done, and with an edge all edges of its line.
pub record ByLines (from to : List ℕ) (i : ℕ) (done : List Bool) : Type 0 where
  pub first : (j : ℕ) → j < i → get_or done j false ≡ true
  pub whole : (j k : ℕ) → j < length from → k < length from → get_or done j false ≡ true → T (lie (get_or from j 0) (get_or to j 0) (get_or from k 0) (get_or to k 0)) → get_or done k false ≡ true

-- What a line has done: the counts and the notes of done edges after, from those before.
pub record Onward (sides : List Edge) (corners from to : List ℕ) (before after : List ℕ) (done done' : List Bool) : Type 0 where
  pub still : Open sides (pieces_of corners from to) after
  pub kept : Kept sides (pieces_of corners from to) before after
  pub others : (j : ℕ) → j < length from → get_or done' j false ≡ true → (get_or done j false ≡ true) ⊎ EdgeHandled sides corners from to after j

-- The edges noted as done are handled.
pub record Through (sides : List Edge) (corners from to : List ℕ) (counts : List ℕ) (done : List Bool) : Type 0 where
  pub still : Open sides (pieces_of corners from to) counts
  pub noted : (j : ℕ) → j < length from → get_or done j false ≡ true → EdgeHandled sides corners from to counts j
