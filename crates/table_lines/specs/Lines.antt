-- Edges by the straight line they lie on: along a line, an edge begins at one corner and ends at another, and what has begun less what has ended is the net
-- count of the pair of corners that follow one another there.
use Rattle.std.specs.Prelude.{◌≡◌, ◌⊎◌, Bool, true, false, ◌&&◌, List, [], ◌∷◌, ℕ, ◌+◌, ◌≤◌, ◌<◌, T, eqb, ltb, pos, length, get_or}
use Rattle.whole.specs.Numbers.{eq_z}
use Rattle.whole.specs.Sums.{All, Among, bit}
use Rattle.plane.specs.Points.{Point, same_point, turn, between}
use Rattle.plane.specs.Keys.{point_at, Key, pair, points_at}
use Rattle.whole_order.specs.Ascending.{Ascending, IsIn, place_of}

-- The corner c lies on the straight line of a and b; both ends of an edge do.
unfoldable pub lies : ℕ → ℕ → ℕ → Bool
lies a b c = eq_z (turn (point_at a) (point_at c) (point_at b)) (pos 0)

abbrev pub lie : ℕ → ℕ → ℕ → ℕ → Bool
lie a b p q = lies a b p && lies a b q

-- The sum of f over the edges from the corners of one list to those of another, one by one.
abbrev pub total : (ℕ → ℕ → ℕ) → List ℕ → List ℕ → ℕ
total f [] l = 0
total f (p ∷ k) [] = 0
total f (p ∷ k) (q ∷ l) = f p q + total f k l

-- How many of the edges on the line of a and b begin at a corner before v, and how many end at one.
abbrev pub begun : ℕ → ℕ → ℕ → List ℕ → List ℕ → ℕ
begun a b v = total (λ p q. bit (lie a b p q && ltb p v))

abbrev pub ended : ℕ → ℕ → ℕ → List ℕ → List ℕ → ℕ
ended a b v = total (λ p q. bit (lie a b p q && ltb q v))

-- Two corners of the table that follow one another on the line of a and b: no corner is strictly between.
pub record Follow (corners : List ℕ) (a b u v : ℕ) : Type 0 where
  pub goes_up : u < v
  pub from_stands : IsIn u corners
  pub to_stands : IsIn v corners
  pub from_on : T (lies a b u)
  pub to_on : T (lies a b v)
  pub clear : (c : Point) → Among same_point c (points_at corners) → T (between c (pair u v)) → ⊥

-- How many of the edges on the line begin, and how many end, at the corner with place k; at a corner with a place before k.
abbrev pub begins_at : List ℕ → ℕ → ℕ → List ℕ → List ℕ → ℕ → ℕ
begins_at corners a b from to k = total (λ p q. bit (lie a b p q && eqb (place_of p corners) k)) from to

abbrev pub ends_at : List ℕ → ℕ → ℕ → List ℕ → List ℕ → ℕ → ℕ
ends_at corners a b from to k = total (λ p q. bit (lie a b p q && eqb (place_of q corners) k)) from to

abbrev pub begun_by : List ℕ → ℕ → ℕ → List ℕ → List ℕ → ℕ → ℕ
begun_by corners a b from to k = total (λ p q. bit (lie a b p q && ltb (place_of p corners) k)) from to

abbrev pub ended_by : List ℕ → ℕ → ℕ → List ℕ → List ℕ → ℕ → ℕ
ended_by corners a b from to k = total (λ p q. bit (lie a b p q && ltb (place_of q corners) k)) from to

-- ---- what the code notes of a line
-- Edges from corner to another corner of the table, at most 4,096.
pub record Cornered (corners from to : List ℕ) : Type 0 where
  pub ascending : Ascending corners
  pub few_corners : length corners ≤ 3072
  pub corner_keys : All Key corners
  pub from_keys : All Key from
  pub to_keys : All Key to
  pub from_stand : All (λ p. IsIn p corners) from
  pub to_stand : All (λ q. IsIn q corners) to
  pub as_many : length to ≡ length from
  pub few : length from ≤ 4096
  pub long : (j : ℕ) → j < length from → get_or from j 0 ≡ get_or to j 0 → ⊥

-- At each corner's place how many edges of the line of a and b begin there, and how many end.
pub record Begins (corners : List ℕ) (a b : ℕ) (from to marks : List ℕ) : Type 0 where
  pub number : length marks ≡ length corners
  pub each : (k : ℕ) → k < length corners → get_or marks k 0 ≡ begins_at corners a b from to k

pub record Ends (corners : List ℕ) (a b : ℕ) (from to marks : List ℕ) : Type 0 where
  pub number : length marks ≡ length corners
  pub each : (k : ℕ) → k < length corners → get_or marks k 0 ≡ ends_at corners a b from to k

-- The first j edges, where they are on the line of a and b, are noted as done, and no other edge that was not so before.
pub record DoneBy (a b : ℕ) (from to : List ℕ) (j : ℕ) (before after : List Bool) : Type 0 where
  pub number : length after ≡ length before
  pub on : (k : ℕ) → k < j → T (lie a b (get_or from k 0) (get_or to k 0)) → get_or after k false ≡ true
  pub kept : (k : ℕ) → get_or before k false ≡ true → get_or after k false ≡ true
  pub others : (k : ℕ) → get_or after k false ≡ true → (get_or before k false ≡ true) ⊎ T (lie a b (get_or from k 0) (get_or to k 0))
  pub later : (k : ℕ) → j ≤ k → get_or after k false ≡ get_or before k false

-- No edge of the line of a and b is one of the first i edges or noted as done.
abbrev pub Unmet : ℕ → ℕ → List ℕ → List ℕ → ℕ → List Bool → Type 0
Unmet a b from to i done = (k : ℕ) → k < length from → (k < i) ⊎ (get_or done k false ≡ true) → T (lie a b (get_or from k 0) (get_or to k 0)) → ⊥

-- The places from low' on and before stop' are those from low on and before stop, and x and y; none of them is n or more where the others are not.
pub record Wider (low stop x y low' stop' : ℕ) : Type 0 where
  pub lower : low' ≤ low
  pub low_x : low' ≤ x
  pub low_y : low' ≤ y
  pub higher : stop ≤ stop'
  pub stop_x : x < stop'
  pub stop_y : y < stop'
  pub no_more : (n : ℕ) → stop ≤ n → x < n → y < n → stop' ≤ n

-- The ends of the first j edges, where they are on the line, have places from low on and before stop.
abbrev pub Spans : List ℕ → ℕ → ℕ → List ℕ → List ℕ → ℕ → ℕ → ℕ → Type 0
Spans corners a b from to j low stop = (i : ℕ) → i < j → T (lie a b (get_or from i 0) (get_or to i 0))
    → (low ≤ place_of (get_or from i 0) corners) × (low ≤ place_of (get_or to i 0) corners) × (place_of (get_or from i 0) corners < stop) × (place_of (get_or to i 0) corners < stop)
