-- Where a step is refused: what is at fault at the field, and that nothing before it in the step is.
use Rattle.std.specs.Prelude.{◌≡◌, true, false, not, cond, ◌&&◌, List, ℕ, ◌+◌, ◌≤◌, ◌<◌, eqb, length, get_or}
use Rattle.lent_little.specs.Ordered.{word_at}
use Rattle.wkb.specs.declared.Cursor.{Cursor}
use Rattle.wkb.specs.Steps.{slot_of, complete, kind_fault, count_fits, ring_fits}

-- What is to come at a place: a point, a ring's count, nothing of the sheet any more, or a geometry's header.
abbrev pub PointDue : Cursor → Type 0
PointDue c = 0 < c.points

abbrev pub RingDue : Cursor → Type 0
RingDue c = (c.points ≡ 0) × (0 < c.rings)

abbrev pub EndDue : Cursor → Type 0
EndDue c = (c.points ≡ 0) × (c.rings ≡ 0) × ((not (eqb c.member 0) && complete c) ≡ true)

abbrev pub HeaderDue : Cursor → Type 0
HeaderDue c = (c.points ≡ 0) × (c.rings ≡ 0) × ((not (eqb c.member 0) && complete c) ≡ false)

-- The fields of a header: its byte order, its type a byte further on, its count 5 bytes further on.
abbrev pub order_at : List ℕ → Cursor → ℕ
order_at s c = get_or s c.at 0

abbrev pub type_at : List ℕ → Cursor → ℕ
type_at s c = word_at (eqb (order_at s c) 1) s (c.at + 1)

abbrev pub count_at : List ℕ → Cursor → ℕ
count_at s c = word_at (eqb (order_at s c) 1) s (c.at + 5)

-- The header's byte order is there and is 0 or 1; its type is there too and may stand there.
abbrev pub Ordered : List ℕ → Cursor → Type 0
Ordered s c = (c.at + 1 ≤ length s) × (order_at s c < 2)

abbrev pub Typed : List ℕ → Cursor → Type 0
Typed s c = Ordered s c × (c.at + 5 ≤ length s) × (kind_fault (slot_of c) c (type_at s c) ≡ 0)

-- What can be at fault in a step, with its code and the byte that the field at fault begins at. 1: too few bytes are left for the field. 4: a count
-- outside its limits. 2: a byte order above 1. 3, 8 and, for the 65th polygon, 4: a type that can't stand there. 7: a byte behind the sheet.
pub data Fault (s : List ℕ) (c : Cursor) : ℕ → ℕ → Type 0 where
  point_cut : PointDue c → length s < c.at + 16 → Fault s c 1 c.at
  ring_cut : RingDue c → length s < c.at + 4 → Fault s c 1 c.at
  ring_count : RingDue c → c.at + 4 ≤ length s → ring_fits c (word_at c.little s c.at) ≡ false → Fault s c 4 c.at
  past : EndDue c → length s < c.at → Fault s c 1 c.at
  surplus : EndDue c → c.at < length s → Fault s c 7 c.at
  order_cut : HeaderDue c → length s < c.at + 1 → Fault s c 1 c.at
  order : HeaderDue c → c.at + 1 ≤ length s → 2 ≤ order_at s c → Fault s c 2 c.at
  type_cut : HeaderDue c → Ordered s c → length s < c.at + 5 → Fault s c 1 (c.at + 1)
  type : HeaderDue c → Ordered s c → c.at + 5 ≤ length s → (kind_fault (slot_of c) c (type_at s c) ≡ 0 → ⊥) → Fault s c (kind_fault (slot_of c) c (type_at s c)) (c.at + 1)
  count_cut : HeaderDue c → Typed s c → length s < c.at + 9 → Fault s c 1 (c.at + 5)
  count : HeaderDue c → Typed s c → c.at + 9 ≤ length s → count_fits c.limit (slot_of c) (count_at s c) ≡ false → Fault s c 4 (c.at + 5)

-- The item of a refusal: the member that the place names, and 0 for bytes behind the sheet.
abbrev pub item_at : ℕ → Cursor → ℕ
item_at code c = cond (eqb code 7) 0 c.member
