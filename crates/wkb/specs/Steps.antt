-- The steps of reading: what one step answers at a place. At each field a missing byte comes before any fault of the value.
use Rattle.std.specs.Prelude.{Option, Some, None, Bool, false, true, not, cond, ◌&&◌, List, ℕ, ◌+◌, ◌-◌, leb, ltb, eqb, length, get_or}
use Rattle.lent.specs.declared.Reason.{Reason}
use Rattle.lent.specs.declared.Reason.TheVariants.{Short, ByteOrder, Count, Behind}
use Rattle.lent.specs.Refusals.{code_of as reason_code}
use Rattle.wkb.specs.declared.Cursor.{Cursor}
use Rattle.wkb_kinds.specs.declared.Slot.{Slot}
use Rattle.wkb_kinds.specs.declared.Slot.TheVariants.{Sheet, Table, Piece, Part, Member}
use Rattle.wkb.specs.declared.Step.{Step}
use Rattle.wkb.specs.declared.Told.{Told}
use Rattle.wkb.specs.declared.Step.TheVariants.{Geometry, Ring, Point, End, Refused}
use Rattle.wkb_kinds.specs.Kinds.{slot_at}
use Rattle.wkb.specs.Places.{moved, naming, header_to_come, second_to_come, third_to_come, fourth_to_come, parts_to_come, rings_to_come, ordered, points_to_come, polygons_begun, points_counted}
use Rattle.wkb_kinds.specs.Types.{crowded_at, deep_at, fault_at, code_told}
use Rattle.lent_little.specs.Ordered.{remains, word_at, double_at}

-- The place before the first byte of a sheet that may have so many members, the table among them: the sheet's own header is to come.
abbrev pub start : ℕ → Cursor
start limit = record {
  at = 0;
  member = 0;
  members = 0;
  header = false;
  second = 0;
  third = 0;
  fourth = 0;
  parts = 0;
  rings = 0;
  little = false;
  points = 0;
  polygons = 0;
  total = 0;
  limit = limit;
}

-- Document 01's number and item for each answer of a step, and the byte position of the field at fault; an answer that is no refusal has code 0
-- and position 0.
abbrev pub code_of : Step → ℕ
code_of (Geometry kind count c) = 0
code_of (Ring count c) = 0
code_of (Point x y c) = 0
code_of (End c) = 0
code_of (Refused reason item field c) = reason_code reason

abbrev pub item_of : Step → ℕ
item_of (Geometry kind count c) = 0
item_of (Ring count c) = 0
item_of (Point x y c) = 0
item_of (End c) = 0
item_of (Refused reason item field c) = item

abbrev pub position_of : Step → ℕ
position_of (Geometry kind count c) = 0
position_of (Ring count c) = 0
position_of (Point x y c) = 0
position_of (End c) = 0
position_of (Refused reason item field c) = field

-- A refusal at a field names the member of the place and tells where the field begins, and the next place is the same place, where a step answers the
-- same again.
abbrev pub refusal : Reason → ℕ → Cursor → Step
refusal reason field c = Refused reason c.member field c

-- What follows where the test of a field holds, else a refusal; and what follows where nothing is wrong with it, else a refusal for what is.
abbrev pub needing : Bool → Reason → ℕ → Cursor → Step → Step
needing test reason field c next = cond test next (refusal reason field c)

abbrev pub unless : Option Reason → ℕ → Cursor → Step → Step
unless None field c next = next
unless (Some reason) field c next = refusal reason field c

-- Which geometry stands at a place.
unfoldable pub slot_of : Cursor → Slot
slot_of c = slot_at c.member c.parts

-- Nothing more is to come of the member.
unfoldable pub complete : Cursor → Bool
complete c =
    not c.header && eqb c.second 0 && eqb c.third 0 && eqb c.fourth 0 && eqb c.parts 0 && eqb c.rings 0 && eqb c.points 0

-- A count that goes on to a limit and stays there.
abbrev pub up_to : ℕ → ℕ → ℕ
up_to limit n = cond (ltb n limit) (n + 1) n

-- Where a member is complete and another follows, the place names that one, and its own header is to come.
unfoldable pub renewed : Cursor → Cursor
renewed c = cond (complete c && ltb 0 c.members) (header_to_come true (polygons_begun 0 (naming (up_to c.limit c.member) (c.members - 1) c))) c

-- ---- a geometry's header: byte order, type, count
-- The 65th polygon under a member: 4. A collection at depth 5: 8.
unfoldable pub crowded : Cursor → Option Reason
crowded c = crowded_at c.polygons

unfoldable pub deep : Cursor → Option Reason
deep c = deep_at c.fourth

-- What is wrong with a type at a place: nothing where it is allowed; and its code, which is 0 there.
abbrev pub kind_reason : Slot → Cursor → ℕ → Option Reason
kind_reason slot c kind = fault_at slot (crowded c) (deep c) kind

unfoldable pub kind_fault : Slot → Cursor → ℕ → ℕ
kind_fault slot c kind = code_told (kind_reason slot c kind)

-- The count is within its limits: members of the sheet, at most so many; triangles, rings of a table piece; and else rings, parts or members.
unfoldable pub count_fits : ℕ → Slot → ℕ → Bool
count_fits limit Sheet n = leb 1 n && leb n limit
count_fits limit Table n = leb 2 n && leb n 1024
count_fits limit Piece n = eqb n 1
count_fits limit Part n = leb 1 n && leb n 64
count_fits limit Member n = leb 1 n && leb n 64

-- One geometry fewer is to come where this one stands: the member's own, or one of the innermost collection that has any left.
unfoldable pub popped : Cursor → Cursor
popped c =
    cond c.header (header_to_come false c)
    (cond (ltb 0 c.fourth) (fourth_to_come (c.fourth - 1) c)
    (cond (ltb 0 c.third) (third_to_come (c.third - 1) c)
    (second_to_come (c.second - 1) c)))

-- One piece or part fewer is to come.
unfoldable pub fewer_parts : Cursor → Cursor
fewer_parts c = parts_to_come (c.parts - 1) c

-- The sheet is opened: its first member, the table, begins.
unfoldable pub with_sheet : ℕ → Cursor → Cursor
with_sheet n c = header_to_come true (naming 1 (n - 1) (moved 9 c))

-- A table or a MultiPolygon is opened: so many pieces or parts are to come.
unfoldable pub with_parts : ℕ → Cursor → Cursor
with_parts n c = parts_to_come n (moved 9 c)

-- A collection is opened under a member: at depth 2 where it stood as the member itself, at depth 4 where it stood in the collection at depth 3,
-- else at depth 3. So many members of it are to come.
unfoldable pub with_members : Cursor → ℕ → Cursor → Cursor
with_members stood n c = cond stood.header (second_to_come n (moved 9 c)) (cond (ltb 0 stood.third) (fourth_to_come n (moved 9 c)) (third_to_come n (moved 9 c)))

-- A polygon is opened: so many rings in this byte order are to come. Pieces of the table are not counted as polygons.
unfoldable pub with_rings : Bool → ℕ → Bool → Cursor → Cursor
with_rings counts n little c = rings_to_come n (ordered little (polygons_begun (cond counts (up_to 64 c.polygons) c.polygons) (moved 9 c)))

-- The place after a header of this byte order, type and count.
unfoldable pub opened : Slot → Cursor → Bool → ℕ → ℕ → Cursor
opened Sheet c little kind n = with_sheet n c
opened Table c little kind n = with_parts n (popped c)
opened Piece c little kind n = with_rings false n little (fewer_parts c)
opened Part c little kind n = with_rings true n little (fewer_parts c)
opened Member c little kind n = cond (eqb kind 3) (with_rings true n little (popped c)) (cond (eqb kind 6) (with_parts n (popped c)) (with_members c n (popped c)))

-- A geometry's header: its byte order is 0 or 1, its type, a byte further on, may stand there, its count, 5 bytes further on, is within the limits.
unfoldable pub geometry_at : List ℕ → Cursor → Step
geometry_at s c =
    let order : ℕ = get_or s c.at 0 in
    let little : Bool = eqb order 1 in
    let kind : ℕ = word_at little s (c.at + 1) in
    let count : ℕ = word_at little s (c.at + 5) in
    needing (remains s c.at 1) Short c.at c
    (needing (ltb order 2) ByteOrder c.at c
    (needing (remains s c.at 5) Short (c.at + 1) c
    (unless (kind_reason (slot_of c) c kind) (c.at + 1) c
    (needing (remains s c.at 9) Short (c.at + 5) c
    (needing (count_fits c.limit (slot_of c) count) Count (c.at + 5) c
    (Geometry kind count (opened (slot_of c) c little kind count)))))))

-- ---- a ring's count
-- It is tested alone, then with the sheet's running total. A table piece's ring has 4 points, which don't count.
unfoldable pub ring_fits : Cursor → ℕ → Bool
ring_fits c n = cond (eqb c.member 1) (eqb n 4) (leb 4 n && leb n 4096 && leb (c.total + n) 4096)

-- A ring is opened: one ring fewer is to come, and so many points.
unfoldable pub with_points : ℕ → Cursor → Cursor
with_points n c = rings_to_come (c.rings - 1) (points_to_come n (points_counted (cond (eqb c.member 1) c.total (c.total + n)) (moved 4 c)))

unfoldable pub ring_at : List ℕ → Cursor → Step
ring_at s c =
    let n : ℕ = word_at c.little s c.at in
    needing (remains s c.at 4) Short c.at c
    (needing (ring_fits c n) Count c.at c
    (Ring n (with_points n c)))

-- ---- a point: two doubles, one field of 16 bytes
-- One point fewer is to come; the last one may complete the member.
unfoldable pub after_point : Cursor → Cursor
after_point c = renewed (points_to_come (c.points - 1) (moved 16 c))

unfoldable pub point_at : List ℕ → Cursor → Step
point_at s c = needing (remains s c.at 16) Short c.at c (Point (double_at c.little s c.at) (double_at c.little s (c.at + 8)) (after_point c))

-- ---- nothing more is to come: the end, or 7 at the first byte that is left; a place past the bytes answers 1
unfoldable pub end_at : List ℕ → Cursor → Step
end_at s c = cond (ltb c.at (length s)) (Refused Behind 0 c.at c) (cond (eqb c.at (length s)) (End c) (refusal Short c.at c))

-- ---- a step
-- A point of the open ring; else a ring of the open polygon; else the end, where nothing of the sheet is to come; else a geometry's header.
unfoldable pub step_at : List ℕ → Cursor → Step
step_at s c =
    cond (ltb 0 c.points) (point_at s c)
    (cond (ltb 0 c.rings) (ring_at s c)
    (cond (not (eqb c.member 0) && complete c) (end_at s c)
    (geometry_at s c)))

-- A step also tells the byte position that it began at.
abbrev pub told_at : List ℕ → Cursor → Told
told_at s c = record { began = c.at; step = step_at s c }
