-- The regions that nobody can be given.
use Rattle.std.specs.Prelude.{◌≡◌, List, [], ℕ, suc, ◌/◌, ◌<◌, length, get_or}
use Rattle.repair_regions.specs.Regions.{Joined}
use Rattle.repair.specs.Repair.{settled}
use Rattle.repair.specs.OneOwner.{owners_at}

-- Triangle t is of a gap region that nobody can be given: no triangle across the region's sides has an owner.
pub record Alone (opposite : List ℕ) (owners : List (List ℕ)) (t : ℕ) : Type 0 where
  pub gap : owners_at owners t ≡ []
  pub across : (k o : ℕ) → Joined opposite (settled owners) t (k / 3) → get_or opposite k 0 ≡ suc o → owners_at owners (o / 3) ≡ []

-- Some triangle has an owner,
abbrev pub SomeOwner : List (List ℕ) → Type 0
SomeOwner owners = (t : ℕ) × (t < length owners) × (owners_at owners t ≡ [] → ⊥)

-- and the first triangle, counted from 1, that nobody can be given is this one.
pub record FirstAlone (opposite : List ℕ) (owners : List (List ℕ)) (item : ℕ) : Type 0 where
  pub some_owner : SomeOwner owners
  pub at : ℕ
  pub counted : item ≡ suc at
  pub within : at < length owners
  pub alone : Alone opposite owners at
  pub none_before : (u : ℕ) → u < at → Alone opposite owners u → ⊥
