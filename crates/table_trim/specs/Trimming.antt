-- Edges with an end off the table: what is left of an edge between its first corner and its last one, and the loose pairs before and behind.
use Rattle.std.specs.Prelude.{◌≡◌, ◌⊎◌, Bool, cond, List, [], ◌∷◌, ◌++◌, ℕ, ◌+◌, ◌-◌, ◌≤◌, ◌<◌, T, length, get_or}
use Rattle.whole.specs.Sums.{All, count}
use Rattle.plane.specs.Points.{Edge, same_edge, between}
use Rattle.plane.specs.Cuts.{pieces}
use Rattle.plane.specs.Boundaries.{SameBoundary}
use Rattle.plane.specs.Keys.{point_at, Key, pair, points_at}
use Rattle.whole_order.specs.Ascending.{IsIn}
use Rattle.table_count.specs.Counting.{Looked, Stray, pieces_of, first_pieces}
use Rattle.table_lines.specs.Lines.{Cornered}
use Rattle.table_loose.specs.Loose.{way, Apart}

-- The pair has an end that is no corner; both its ends are corners.
pub record Loose (corners : List ℕ) (e : Edge) : Type 0 where
  pub u : ℕ
  pub v : ℕ
  pub is : e ≡ pair u v
  pub off : (IsIn u corners → ⊥) ⊎ (IsIn v corners → ⊥)

pub record Cornerly (corners : List ℕ) (e : Edge) : Type 0 where
  pub u : ℕ
  pub v : ℕ
  pub is : e ≡ pair u v
  pub from_stands : IsIn u corners
  pub to_stands : IsIn v corners

-- r is one more than the place of the last corner before `at` that is strictly between u and v; 0 where there is none.
pub record LastStop (corners : List ℕ) (at u v r : ℕ) : Type 0 where
  pub within : r ≤ at
  pub stop : 0 < r → T (between (point_at (get_or corners (r - 1) 0)) (pair u v))
  pub last : (j : ℕ) → r ≤ j → j < at → T (between (point_at (get_or corners j 0)) (pair u v)) → ⊥

-- What is left of the edge from u up to v once a loose piece before its first corner is taken off begins at x.
pub record Headed (corners : List ℕ) (u v x : ℕ) : Type 0 where
  pub key : Key x
  pub before : x ≤ v
  pub ends : IsIn x corners ⊎ (x ≡ v)
  pub loose : All (Loose corners) (way u x)
  pub cut : (e : Edge) → count same_edge e (pieces (points_at corners) (pair u v)) ≡ count same_edge e (way u x) + count same_edge e (pieces (points_at corners) (pair x v))

-- What is left of the edge from the corner u up to v once a loose piece behind its last corner is taken off ends at y.
pub record Tailed (corners : List ℕ) (u v y : ℕ) : Type 0 where
  pub key : Key y
  pub ends : (IsIn u corners × IsIn y corners) ⊎ (u ≡ y)
  pub loose : All (Loose corners) (way y v)
  pub cut : (e : Edge) → count same_edge e (pieces (points_at corners) (pair u v)) ≡ count same_edge e (pieces (points_at corners) (pair u y)) + count same_edge e (way y v)

-- What is left of the edge from p to q goes from the corner s to the corner t, or has no length; what is taken off is loose.
pub record Left (corners : List ℕ) (p q s t : ℕ) : Type 0 where
  pub from_key : Key s
  pub to_key : Key t
  pub ends : (IsIn s corners × IsIn t corners) ⊎ (s ≡ t)
  pub loose_from : All (Loose corners) (way p s)
  pub loose_to : All (Loose corners) (way t q)
  pub cut : (e : Edge) → count same_edge e (pieces (points_at corners) (pair p q)) ≡ count same_edge e (way p s) + count same_edge e (pieces (points_at corners) (pair s t)) + count same_edge e (way t q)

-- A number, unless the test says so.
abbrev pub unless : Bool → ℕ → List ℕ
unless b n = cond b [] (n ∷ [])

-- The first i edges are trimmed to edges from corner to corner; the loose pairs that were taken off and have not cancelled yet are open.
pub record Trimmed (corners from to : List ℕ) (i : ℕ) (inner-from inner-to : List ℕ) (loose : List Edge) : Type 0 where
  pub cornered : Cornered corners inner-from inner-to
  pub number : length inner-from ≤ i
  pub boundary : SameBoundary (first_pieces corners from to i) (pieces_of corners inner-from inner-to ++ loose)
  pub each_loose : All (Loose corners) loose
  pub apart : Apart loose

-- The pieces of the edges from corner to corner have the boundary of the pieces of all edges.
pub record Reduced (corners from to inner-from inner-to : List ℕ) : Type 0 where
  pub cornered : Cornered corners inner-from inner-to
  pub boundary : SameBoundary (pieces_of corners from to) (pieces_of corners inner-from inner-to)

-- There is a stray pair, whatever the sides.
abbrev pub Astray : List ℕ → List ℕ → List ℕ → Type 0
Astray corners from to = (sides : List Edge) (index : List ℕ) → Looked sides corners index → Stray sides (pieces_of corners from to)
