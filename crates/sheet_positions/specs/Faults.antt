-- What is at fault where reading is refused, code by code.
use Rattle.std.specs.Prelude.{◌≡◌, Some, None, true, List, ℕ, ◌+◌, ◌≤◌, length}
use Rattle.lent_little.specs.Ordered.{double_at}
use Rattle.sheet_coordinate.specs.Coordinate.{coordinate_of}
use Rattle.wkb.specs.declared.Cursor.{Cursor}
use Rattle.wkb.specs.Faults.{PointDue, Fault, item_at}
use Rattle.sheet.specs.Reading.{Taken, differs}
use Rattle.sheet_positions.specs.Places.{Comes}

-- The point's doubles as they stand at the place, x and 8 bytes further on y.
abbrev pub XIs : List ℕ → Cursor → ℕ → Type 0
XIs s c x = coordinate_of (double_at c.little s c.at) ≡ Some x

abbrev pub YIs : List ℕ → Cursor → ℕ → Type 0
YIs s c y = coordinate_of (double_at c.little s (c.at + 8)) ≡ Some y

-- What can be at fault at a place, with its code and byte position: what a step refuses; 5 where the point's x is no coordinate, or its y where x is one; 6 where both
-- are, but the point closes its ring and differs from the ring's first.
pub data Wrong (s : List ℕ) (c : Cursor) (b : Taken) : ℕ → ℕ → Type 0 where
  field : {code at : ℕ} → Fault s c code at → Wrong s c b code at
  x : PointDue c → c.at + 16 ≤ length s → coordinate_of (double_at c.little s c.at) ≡ None → Wrong s c b 5 c.at
  y : PointDue c → c.at + 16 ≤ length s → (x : ℕ) → XIs s c x → coordinate_of (double_at c.little s (c.at + 8)) ≡ None → Wrong s c b 5 (c.at + 8)
  unclosed : PointDue c → c.at + 16 ≤ length s → (x y : ℕ) → XIs s c x → YIs s c y → differs c x y b ≡ true → Wrong s c b 6 c.at

-- The bytes are at fault, with this code and item, at this position: reading comes to a place, and there that is wrong.
pub record FaultIn (limit : ℕ) (s : List ℕ) (code item position : ℕ) : Type 0 where
  pub place : Cursor
  pub taken : Taken
  pub comes : Comes limit s place taken
  pub wrong : Wrong s place taken code position
  pub named : item ≡ item_at code place
