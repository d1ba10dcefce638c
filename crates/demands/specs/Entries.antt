-- The entries as one list, so that a promise to all of them is said once.
use Rattle.std.specs.Prelude.{true, cond, List, ℕ, leb, ℤ}
use Rattle.lent.specs.Answered.{Outcome}
use Rattle.outcomes.specs.declared.Wanted.{Wanted}
use Rattle.outcomes.specs.declared.Wanted.TheVariants.{OwnerSets, Owners, Boundary, Rings, RingRoom, At}
use Rattle.outcomes.specs.Entries.{sheet_numbers_by, sheet_areas, sheet_position, sheet_write, sheet_write_blob, sheet_owner_sets_by, sheet_owners_by, sheet_boundary_by, sheet_rings, sheet_ring_room, sheet_listing_by, sheet_at, sheet_index, answer_to}

-- An entry, with what is asked of it besides the bytes: the mode of reading, the way to fill gaps, for the entries of a polygon's boundary and rings and of their room its number, and for the entry at a point its x and y. The entries
-- that take no mode and no way are those in mode 0 and way 0. The entries with an index are one, by what is wanted; the set entry has way 0.
pub data Entry : Type 0 where
  numbers : (mode : ℕ) → Entry
  areas : (mode : ℕ) → Entry
  position : (mode : ℕ) → Entry
  write : Entry
  write_blob : Entry
  owner_sets : (mode : ℕ) → Entry
  owners : (mode way : ℕ) → Entry
  boundary : (mode way polygon : ℕ) → Entry
  rings : (mode way polygon : ℕ) → Entry
  ring_room : (mode way polygon : ℕ) → Entry
  listing : (mode way : ℕ) → Entry
  owner_at : (mode way : ℕ) (x y : ℤ) → Entry
  index : (mode : ℕ) → Entry
  indexed : (lent : List ℕ) (mode way : ℕ) (wanted : Wanted) → Entry

-- What the entry comes to for the bytes that it is given.
abbrev pub outcome_of : Entry → List ℕ → Outcome
outcome_of (numbers mode) s = sheet_numbers_by mode s
outcome_of (areas mode) s = sheet_areas mode s
outcome_of (position mode) s = sheet_position mode s
outcome_of write s = sheet_write s
outcome_of write_blob s = sheet_write_blob s
outcome_of (owner_sets mode) s = sheet_owner_sets_by mode s
outcome_of (owners mode way) s = sheet_owners_by mode way s
outcome_of (boundary mode way polygon) s = sheet_boundary_by mode way polygon s
outcome_of (rings mode way polygon) s = sheet_rings mode way polygon s
outcome_of (ring_room mode way polygon) s = sheet_ring_room mode way polygon s
outcome_of (listing mode way) s = sheet_listing_by mode way s
outcome_of (owner_at mode way x y) s = sheet_at mode way x y s
outcome_of (index mode) s = sheet_index mode s
outcome_of (indexed lent mode way wanted) s = answer_to (record { mode = mode; way = way; wanted = wanted; indexed = true }) lent s

-- The room of an entry: lent so many bytes, it never answers 40. A blob's numbers have one more than a sheet's, 4 bytes. What is at a point and the room of rings need none.
abbrev pub room_of : Entry → ℕ
room_of (numbers mode) = cond (leb mode 1) 65_800 65_804
room_of (areas mode) = 512
room_of (position mode) = 16
room_of write = 158_290
room_of write_blob = 158_330
room_of (owner_sets mode) = 8_192
room_of (owners mode way) = 1_024
room_of (boundary mode way polygon) = 49_152
room_of (rings mode way polygon) = 74_761
room_of (ring_room mode way polygon) = 0
room_of (listing mode way) = 6_600
room_of (owner_at mode way x y) = 0
room_of (index mode) = 6_144
room_of (indexed lent mode way OwnerSets) = 8_192
room_of (indexed lent mode way Owners) = 1_024
room_of (indexed lent mode way (Boundary polygon)) = 49_152
room_of (indexed lent mode way (Rings polygon)) = 74_761
room_of (indexed lent mode way (RingRoom polygon)) = 0
room_of (indexed lent mode way (At x y)) = 0
