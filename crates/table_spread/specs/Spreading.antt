-- The sides that a polygon touches, and triangles labelled one after another from them, across untouched sides: what stands in the group so far, and how it grows.
use Rattle.std.specs.Prelude.{◌≡◌, Bool, true, false, cond, List, [], ◌∷◌, ℕ, suc, ◌+◌, ◌*◌, ◌/◌, ◌≤◌, ◌<◌, eqb, length, get_or, set}
use Rattle.whole.specs.Sums.{bit}
use Rattle.plane.specs.Boundaries.{sides_of}
use Rattle.table.specs.Table.{RuleA, RuleB}
use Rattle.table.specs.Sides.{triangles_of, evenly, once, Shares}
use Rattle.table.specs.Opposites.{opposites}
use Rattle.table_labels.specs.Labels.{Sided}

-- The numbers of the sides with a count other than none, where the first side is number k.
abbrev pub touched_from : ℕ → List ℕ → List ℕ
touched_from k [] = []
touched_from k (c ∷ l) = cond (eqb c evenly) (touched_from (suc k) l) (k ∷ touched_from (suc k) l)

-- The touched sides, by their numbers in order.
abbrev pub touched_sides : List ℕ → List ℕ
touched_sides counts = touched_from 0 counts

-- The sides of n triangles that meet the rules A and B, with the reverse of each, and counts at them: the reverse of an untouched side is untouched.
pub record Spreadable (opposite counts : List ℕ) (n : ℕ) : Type 0 where
  pub keys : List ℕ
  pub corners : length keys ≡ 3 * n
  pub area : RuleA (triangles_of keys)
  pub sides_once : RuleB (triangles_of keys)
  pub found : opposite ≡ opposites (sides_of (triangles_of keys))
  pub sided : Sided opposite counts n
  pub turned : (k o : ℕ) → k < length opposite → get_or opposite k 0 ≡ suc o → get_or counts k 0 ≡ evenly → get_or counts o 0 ≡ evenly

-- How many labels are set.
abbrev pub marked : List Bool → ℕ
marked [] = 0
marked (b ∷ l) = bit b + marked l

-- What has been met: n triangles stand in the group, and those are the labelled ones, as many as there are labels.
pub record Meeting (labels : List Bool) (group : List ℕ) (n : ℕ) : Type 0 where
  pub room : length group ≡ length labels
  pub many : marked labels ≡ n
  pub own : (i : ℕ) → i < n → get_or labels (get_or group i 0) false ≡ true
  pub by : (t : ℕ) → get_or labels t false ≡ true → (i : ℕ) × (i < n) × (get_or group i 0 ≡ t)

-- Triangle t is taken in as number n unless it is labelled.
pub data Taken (t : ℕ) (labels : List Bool) (group : List ℕ) (n : ℕ) (labels' : List Bool) (group' : List ℕ) (n' : ℕ) : Type 0 where
  stays : get_or labels t false ≡ true → labels' ≡ labels → group' ≡ group → n' ≡ n → Taken t labels group n labels' group' n'
  takes : get_or labels t false ≡ false → labels' ≡ set labels t true → group' ≡ set group n t → n' ≡ suc n → Taken t labels group n labels' group' n'

-- More has been met: what stood in the group stands there, and what was labelled is labelled.
pub record Grown (labels : List Bool) (group : List ℕ) (n : ℕ) (labels' : List Bool) (group' : List ℕ) (n' : ℕ) : Type 0 where
  pub meeting : Meeting labels' group' n'
  pub marks : length labels' ≡ length labels
  pub places : length group' ≡ length group
  pub more : n ≤ n'
  pub same : (i : ℕ) → i < n → get_or group' i 0 ≡ get_or group i 0
  pub still : (t : ℕ) → get_or labels t false ≡ true → get_or labels' t false ≡ true

-- The own triangle of side k is labelled if the side counts once.
abbrev pub Entered : List ℕ → List Bool → ℕ → Type 0
Entered counts labels k = get_or counts k 0 ≡ once → get_or labels (k / 3) false ≡ true

-- Only own triangles of sides that count once are labelled.
pub record Seeded (counts : List ℕ) (labels : List Bool) : Type 0 where
  pub side : (t : ℕ) → get_or labels t false ≡ true → (k : ℕ) × (k < length counts) × (get_or counts k 0 ≡ once) × (k / 3 ≡ t)

-- Each set of triangles with these counts for its boundary has the labelled ones.
pub record Forced (opposite counts : List ℕ) (labels : List Bool) : Type 0 where
  pub in_set : (s : List Bool) → Shares opposite counts s → (t : ℕ) → get_or labels t false ≡ true → get_or s t false ≡ true

-- Side k is untouched and has no reverse.
abbrev pub Ends : List ℕ → List ℕ → ℕ → Type 0
Ends opposite counts k = (get_or opposite k 0 ≡ 0) × (get_or counts k 0 ≡ evenly)

-- A side of triangle t is untouched and has no reverse.
abbrev pub Open : List ℕ → List ℕ → ℕ → Type 0
Open opposite counts t = (k : ℕ) × (k / 3 ≡ t) × Ends opposite counts k

-- Where side k is untouched there is a triangle across it, and that is labelled.
pub record Crossed (opposite counts : List ℕ) (labels : List Bool) (k : ℕ) : Type 0 where
  pub at : get_or counts k 0 ≡ evenly → (o : ℕ) × (get_or opposite k 0 ≡ suc o) × (get_or labels (o / 3) false ≡ true)

-- So for each side of triangle t,
abbrev pub Rounded : List ℕ → List ℕ → List Bool → ℕ → Type 0
Rounded opposite counts labels t = (k : ℕ) → k / 3 ≡ t → Crossed opposite counts labels k

-- for the sides of the first i triangles in the group,
abbrev pub SpreadFrom : List ℕ → List ℕ → List Bool → List ℕ → ℕ → Type 0
SpreadFrom opposite counts labels group i = (j : ℕ) → j < i → Rounded opposite counts labels (get_or group j 0)

-- and for the sides of all labelled triangles, which are in each set with these counts for its boundary.
pub record Spread (opposite counts : List ℕ) (labels : List Bool) : Type 0 where
  pub forced : Forced opposite counts labels
  pub crossed : (k : ℕ) → get_or labels (k / 3) false ≡ true → Crossed opposite counts labels k
