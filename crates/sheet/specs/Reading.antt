-- Reading a sheet by steps, left to right, to the first fault. Each number is held as itself plus 10,000,000.
use Rattle.std.specs.Prelude.{Option, Some, None, Bool, true, false, not, cond, ◌&&◌, List, [], ◌∷◌, ◌++◌, ℕ, zero, suc, ◌+◌, eqb, length, set}
use Rattle.plane.specs.Corners.{offset}
use Rattle.lent.specs.declared.Reason.TheVariants.{Short, Coordinate, Unclosed}
use Rattle.sheet_coordinate.specs.Coordinate.{coordinate_of}
use Rattle.wkb.specs.declared.Cursor.{Cursor}
use Rattle.wkb_kinds.specs.declared.Slot.{Slot}
use Rattle.wkb_kinds.specs.declared.Slot.TheVariants.{Sheet, Table, Piece, Part, Member}
use Rattle.wkb.specs.declared.Step.{Step}
use Rattle.wkb.specs.declared.Step.TheVariants.{Geometry, Ring, Point, End, Refused}
use Rattle.wkb.specs.Steps.{code_of, item_of, position_of, start, refusal, slot_of, step_at}

-- What was read so far: the numbers, where the number of the open member's polygons stands among them, whether the open ring's first
-- point is still to come, and that point.
pub record Taken : Type 0 where
  pub numbers : List ℕ
  pub mark : ℕ
  pub first : Bool
  pub x : ℕ
  pub y : ℕ

abbrev pub nothing : Taken
nothing = record { numbers = []; mark = 0; first = false; x = 0; y = 0 }

-- ---- what was taken with one thing changed, and the rest as it was
-- These numbers.
abbrev pub numbered : List ℕ → Taken → Taken
numbered l b = record { numbers = l; mark = b.mark; first = b.first; x = b.x; y = b.y }

-- The number of the open member's polygons stands there.
abbrev pub marked : ℕ → Taken → Taken
marked k b = record { numbers = b.numbers; mark = k; first = b.first; x = b.x; y = b.y }

-- A ring is opened, and its first point is to come.
abbrev pub first_to_come : Taken → Taken
first_to_come b = record { numbers = b.numbers; mark = b.mark; first = true; x = b.x; y = b.y }

-- The open ring's first point is this one.
abbrev pub remembering : ℕ → ℕ → Taken → Taken
remembering x y b = record { numbers = b.numbers; mark = b.mark; first = false; x = x; y = y }

-- ---- what a field adds
-- A count as it is held.
abbrev pub held : ℕ → ℕ
held n = n + offset

-- One number more.
abbrev pub push : ℕ → Taken → Taken
push v b = numbered (b.numbers ++ v ∷ []) b

-- The number of the open member's polygons so far, stored where it stands.
abbrev pub tally : ℕ → Taken → Taken
tally n b = numbered (set b.numbers b.mark (held n)) b

-- A member begins: the number of its polygons comes first, none so far.
abbrev pub begin : Taken → Taken
begin b = push (held 0) (marked (length b.numbers) b)

-- A polygon of the member is opened with its number of rings; c is the place after its header, which counts it.
abbrev pub polygon : Cursor → ℕ → Taken → Taken
polygon c n b = push (held n) (tally c.polygons b)

-- What a geometry adds that was opened at c with this type and count, c' being the next place. The sheet adds nothing, the table the number
-- of its triangles, a piece of it nothing, and a part of a MultiPolygon is a polygon. The member's own geometry begins the member. A Polygon,
-- there or in a collection under the member, is a polygon of it; a MultiPolygon or a collection adds nothing itself.
unfoldable pub opening : Slot → Cursor → Cursor → ℕ → ℕ → Taken → Taken
opening Sheet c c' kind n b = b
opening Table c c' kind n b = push (held n) b
opening Piece c c' kind n b = b
opening Part c c' kind n b = polygon c' n b
opening Member c c' kind n b =
    let b' : Taken = cond c.header (begin b) b in
    cond (eqb kind 3) (polygon c' n b') b'

-- The place is in the table.
abbrev pub in_table : Cursor → Bool
in_table c = eqb c.member 1

-- What a ring's count adds: itself, but nothing in the table.
unfoldable pub ringing : Cursor → ℕ → Taken → Taken
ringing c n b = first_to_come (cond (in_table c) b (push (held n) b))

-- The point (x, y), remembered if it is the ring's first.
abbrev pub noted : ℕ → ℕ → Taken → Taken
noted x y b = remembering (cond b.first x b.x) (cond b.first y b.y) b

-- The point at c is its ring's last, the closing one.
abbrev pub closing : Cursor → Bool
closing c = eqb c.points 1

-- The table ends with the point at c.
abbrev pub last_of_table : Cursor → Bool
last_of_table c = in_table c && eqb c.parts 0 && eqb c.rings 0 && closing c

-- What the point (x, y) at c adds: both numbers. A table triangle stands without its closing point. Behind the table comes the number of the
-- sheet's polygons, which are the members after it.
unfoldable pub pointing : Cursor → ℕ → ℕ → Taken → Taken
pointing c x y b =
    let b' : Taken = noted x y b in
    let b'' : Taken = cond (in_table c && closing c) b' (push y (push x b')) in
    cond (last_of_table c) (push (held c.members) b'') b''

-- ---- reading
-- How reading ends: code 0 and the sheet's numbers, or a refusal with the byte position of the field at fault and the numbers so far.
pub record Reading : Type 0 where
  pub code : ℕ
  pub item : ℕ
  pub position : ℕ
  pub numbers : List ℕ

-- It ends with the answer of a step: document 01's number and item of that answer, and its position.
abbrev pub ended : Step → Taken → Reading
ended a b = record { code = code_of a; item = item_of a; position = position_of a; numbers = b.numbers }

-- Reading goes on from a place with what was taken, or is over.
pub data Turn : Type 0 where
  on : Cursor → Taken → Turn
  over : Reading → Turn

-- The point (x, y) at c closes its ring and differs from the ring's first.
abbrev pub differs : Cursor → ℕ → ℕ → Taken → Bool
differs c x y b = closing c && not (eqb x (noted x y b).x && eqb y (noted x y b).y)

-- A point at c is judged as it comes, c' being the next place: 5 at the first double that is not a coordinate, y being 8 bytes behind x, then 6 at the
-- point where it is the ring's last and differs from its first.
unfoldable pub judged : Cursor → Cursor → Taken → Option ℕ → Option ℕ → Turn
judged c c' b None q = over (ended (refusal Coordinate c.at c) b)
judged c c' b (Some x) None = over (ended (refusal Coordinate (c.at + 8) c) b)
judged c c' b (Some x) (Some y) = cond (differs c x y b) (over (ended (refusal Unclosed c.at c) b)) (on c' (pointing c x y b))

-- What the answer of a step at c adds, c' being the next place. The end and a refusal end reading.
unfoldable pub taken : Cursor → Taken → Step → Turn
taken c b (Geometry kind n c') = on c' (opening (slot_of c) c c' kind n b)
taken c b (Ring n c') = on c' (ringing c n b)
taken c b (Point x y c') = judged c c' b (coordinate_of x) (coordinate_of y)
taken c b (End c') = over (ended (End c') b)
taken c b (Refused reason item field c') = over (ended (Refused reason item field c') b)

-- One step, and what its answer adds.
unfoldable pub turn : List ℕ → Cursor → Taken → Turn
turn s c b = taken c b (step_at s c)

-- Reading from a place on, by so many steps at most. Each step but the last goes forward, so the bytes that are left bound the steps.
unfoldable pub run : ℕ → List ℕ → Cursor → Taken → Reading
run zero s c b = ended (refusal Short c.at c) b
run (suc n) s c b = elim (turn s c b) [ on c' b' ↦ run n s c' b' | over r ↦ r ]

-- The reading of a sheet that may have so many members, the table among them: a step for each byte and one more are enough.
abbrev pub reading_of : ℕ → List ℕ → Reading
reading_of limit s = run (suc (length s)) s (start limit) nothing
