-- Gap triangles met one after another, region by region: what stands in the group so far.
use Rattle.std.specs.Prelude.{◌≡◌, ◌⊎◌, Bool, true, false, List, [], ◌∷◌, ℕ, suc, ◌+◌, ◌*◌, ◌/◌, ◌≤◌, ◌<◌, length, get_or, set}
use Rattle.whole.specs.Sums.{bit}
use Rattle.repair_regions.specs.Regions.{region}

-- The sides of n triangles are numbered, three a triangle; what is across a side is a side, and across that is the first again.
pub record Paired (opposite : List ℕ) (n : ℕ) : Type 0 where
  pub sides : length opposite ≡ 3 * n
  pub there : (k o : ℕ) → get_or opposite k 0 ≡ suc o → o < length opposite
  pub back : (k o : ℕ) → get_or opposite k 0 ≡ suc o → get_or opposite o 0 ≡ suc k

-- How many marks are set.
abbrev pub marked : List Bool → ℕ
marked [] = 0
marked (b ∷ l) = bit b + marked l

-- What has been met: n gap triangles stand in the group, each once, and the marks are theirs, as many as there are triangles in it.
pub record Meeting (numbers : List ℕ) (met : List Bool) (group : List ℕ) (n : ℕ) : Type 0 where
  pub marks : length met ≡ length numbers
  pub room : length group ≡ length numbers
  pub many : marked met ≡ n
  pub own : (i : ℕ) → i < n → get_or met (get_or group i 0) false ≡ true
  pub by : (t : ℕ) → get_or met t false ≡ true → (i : ℕ) × (i < n) × (get_or group i 0 ≡ t)
  pub gaps : (t : ℕ) → get_or met t false ≡ true → get_or numbers t 0 ≡ 0
  pub once : (i j : ℕ) → i < j → j < n → get_or group i 0 ≡ get_or group j 0 → ⊥

-- Triangle u is taken in as number n unless it has a number or is marked.
pub data Taken (numbers : List ℕ) (u : ℕ) (met : List Bool) (group : List ℕ) (n : ℕ) (met' : List Bool) (group' : List ℕ) (n' : ℕ) : Type 0 where
  stays : (get_or numbers u 0 ≡ 0 → get_or met u false ≡ true) → met' ≡ met → group' ≡ group → n' ≡ n → Taken numbers u met group n met' group' n'
  takes : get_or numbers u 0 ≡ 0 → get_or met u false ≡ false → met' ≡ set met u true → group' ≡ set group n u → n' ≡ suc n → Taken numbers u met group n met' group' n'

-- More has been met: what stood in the group stands there, what was marked is marked, and what is behind it in the group was unmarked.
pub record Grown (numbers : List ℕ) (met : List Bool) (group : List ℕ) (n : ℕ) (met' : List Bool) (group' : List ℕ) (n' : ℕ) : Type 0 where
  pub meeting : Meeting numbers met' group' n'
  pub more : n ≤ n'
  pub same : (i : ℕ) → i < n → get_or group' i 0 ≡ get_or group i 0
  pub still : (t : ℕ) → get_or met t false ≡ true → get_or met' t false ≡ true
  pub fresh : (j : ℕ) → n ≤ j → j < n' → get_or met (get_or group' j 0) false ≡ false

-- What is marked since is in the region of t.
pub record Fresh (opposite numbers : List ℕ) (met met' : List Bool) (t : ℕ) : Type 0 where
  pub since : (u : ℕ) → get_or met' u false ≡ true → (get_or met u false ≡ true) ⊎ (get_or (region opposite numbers t) u false ≡ true)

-- The triangles of the group from `first` on and before n are in the region of t.
abbrev pub InRegion : List ℕ → List ℕ → List ℕ → ℕ → ℕ → ℕ → Type 0
InRegion opposite numbers group t first n = (j : ℕ) → first ≤ j → j < n → get_or (region opposite numbers t) (get_or group j 0) false ≡ true

-- What is marked since is in the region of t, for each t whose region has triangle u.
abbrev pub FreshFrom : List ℕ → List ℕ → List Bool → List Bool → ℕ → Type 0
FreshFrom opposite numbers met met' u = (t : ℕ) → t < length numbers → get_or (region opposite numbers t) u false ≡ true → Fresh opposite numbers met met' t

-- The triangle across side k, where there is one and it is a gap, is marked.
pub record Across (opposite numbers : List ℕ) (met : List Bool) (k : ℕ) : Type 0 where
  pub at : (o : ℕ) → get_or opposite k 0 ≡ suc o → get_or numbers (o / 3) 0 ≡ 0 → get_or met (o / 3) false ≡ true

-- The gaps across the sides of triangle u are marked.
abbrev pub Rounded : List ℕ → List ℕ → List Bool → ℕ → Type 0
Rounded opposite numbers met u = (k : ℕ) → k / 3 ≡ u → Across opposite numbers met k

-- The gaps across the sides of the first i triangles of the group are marked.
abbrev pub Spread : List ℕ → List ℕ → List Bool → List ℕ → ℕ → Type 0
Spread opposite numbers met group i = (j : ℕ) → j < i → Rounded opposite numbers met (get_or group j 0)
