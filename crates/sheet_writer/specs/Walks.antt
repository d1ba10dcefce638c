-- A walk over the numbers: where it stands, and what one of them comes to.
use Rattle.std.specs.Prelude.{◌≡◌, Option as Maybe, None, Some, List, ℕ, ◌+◌, ◌*◌, ◌≤◌, ℤ, length, drop}
use Rattle.std.proofs.Math.Option.{Option, none, some}
use Rattle.std.proofs.lemmas.List.Edits.{sets}
use Rattle.sheet_writer.specs.declared.Walk.{Walk}
use Rattle.sheet_writer.specs.Emit.{Emitted, heading}

-- Where the walk begins.
abbrev pub beginning : Walk
beginning = record { at = 0; to = 0; points = 0 }

-- A place within at most 16,450 numbers, with no more bytes and points behind it than its numbers can have.
pub record Fair (nums : List ℤ) (w : Walk) : Type 0 where
  pub few : length nums ≤ 16450
  pub at_most : w.at ≤ length nums
  pub to_most : w.to ≤ 20 * w.at + 20
  pub points_most : w.points ≤ w.at

-- The place behind the count of a level's things, and behind what stands before them.
abbrev pub headed : Walk → ℕ → ℕ → Walk
headed w level n = record { at = w.at + 1; to = w.to + length (heading level n); points = w.points }

-- The walk went from w to r over what was emitted, and left the lent bytes as `after`.
pub record Gone (e : Emitted) (nums : List ℤ) (w : Walk) (before : List ℕ) (r : Walk) (after : List ℕ) : Type 0 where
  pub rest : drop r.at nums ≡ e.rest
  pub at_most : r.at ≤ length nums
  pub to_is : r.to ≡ w.to + length e.bytes
  pub points_are : r.points ≡ w.points + e.points
  pub to_pace : r.to + 20 * w.at ≤ w.to + 20 * r.at
  pub points_pace : r.points + w.at ≤ w.points + r.at
  pub left : after ≡ sets before w.to e.bytes

-- Where nothing is emitted something is wrong, and the walk comes to no place.
abbrev pub Went : Option Emitted → List ℤ → Walk → List ℕ → Maybe Walk → List ℕ → Type 0
Went x nums w before None after = (x ≡ none) × (length after ≡ length before)
Went x nums w before (Some r) after = (e : Emitted) × (x ≡ some e) × Gone e nums w before r after

-- The walk over the whole sheet, which comes to how many bytes it has.
abbrev pub Ended : Option (List ℕ) → List ℕ → Maybe ℕ → List ℕ → Type 0
Ended x before None after = (x ≡ none) × (length after ≡ length before)
Ended x before (Some k) after = (b : List ℕ) × (x ≡ some b) × (k ≡ length b) × (after ≡ sets before 0 b)
