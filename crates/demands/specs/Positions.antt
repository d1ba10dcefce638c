-- What the promises on byte positions speak of: the next place after a step, lent bytes that are enough, the entries that read a sheet.
use Rattle.std.specs.Prelude.{◌≡◌, ◌⊎◌, List, ℕ, ◌+◌, ◌≤◌, length}
use Rattle.wkb.specs.declared.Cursor.{Cursor}
use Rattle.wkb.specs.declared.Step.{Step}
use Rattle.wkb.specs.declared.Step.TheVariants.{Geometry, Ring, Point, End, Refused}
use Rattle.wkb.specs.Steps.{told_at}
use Rattle.lent.specs.Stages.{value, refused}
use Rattle.lent.specs.Answered.{Outcome}
use Rattle.demands.specs.Entries.{Entry, numbers, areas, position, write, write_blob, owner_sets, owners, boundary, rings, ring_room, listing, owner_at, index, indexed}

-- The next place is within the bytes, and as far from where the step began as the field is long: 9 bytes a header, 4 a ring's count, 16 a point.
abbrev pub NextAfter : List ℕ → Cursor → Step → Type 0
NextAfter s c (Geometry kind n d) = (d.at ≡ (told_at s c).began + 9) × (d.at ≤ length s)
NextAfter s c (Ring n d) = (d.at ≡ (told_at s c).began + 4) × (d.at ≤ length s)
NextAfter s c (Point x y d) = (d.at ≡ (told_at s c).began + 16) × (d.at ≤ length s)
NextAfter s c (End d) = Unit {0}
NextAfter s c (Refused reason item field d) = Unit {0}

-- As many bytes are lent as the answer has.
abbrev pub Enough : Outcome → List ℕ → Type 0
Enough (value w) lent = length w.text ≤ length lent
Enough (refused code item) lent = Unit {0}

-- The codes that reading in a mode is refused with: 1 to 8, 50 or 51 for a blob's header, 57 for the mode.
pub data OfReading : ℕ → Type 0 where
  low : {code : ℕ} → code ≤ 8 → OfReading code
  of_header : {code : ℕ} → (code ≡ 50) ⊎ (code ≡ 51) → OfReading code
  of_mode : {code : ℕ} → code ≡ 57 → OfReading code

-- The entries that read a sheet in the mode and hand a refusal of reading on as their own.
abbrev pub ReadsSheet : ℕ → Entry → Type 0
ReadsSheet mode (numbers m) = m ≡ mode
ReadsSheet mode (areas m) = m ≡ mode
ReadsSheet mode (position m) = ⊥
ReadsSheet mode write = ⊥
ReadsSheet mode write_blob = ⊥
ReadsSheet mode (owner_sets m) = m ≡ mode
ReadsSheet mode (owners m way) = m ≡ mode
ReadsSheet mode (boundary m way k) = m ≡ mode
ReadsSheet mode (rings m way k) = m ≡ mode
ReadsSheet mode (ring_room m way k) = m ≡ mode
ReadsSheet mode (listing m way) = ⊥
ReadsSheet mode (owner_at m way x y) = m ≡ mode
ReadsSheet mode (index m) = m ≡ mode
ReadsSheet mode (indexed lent m way wanted) = m ≡ mode
