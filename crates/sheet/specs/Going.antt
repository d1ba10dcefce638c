-- How the code holds what was read: the numbers stand in lent numbers, as far as there is room, and the rest in a small struct.
use Rattle.std.specs.Prelude.{◌≡◌, Result, Ok, Err, List, ◌++◌, ℕ, suc, ◌+◌, ◌-◌, ◌^◌, ◌≤◌, ◌<◌, length, take, drop}
use Rattle.plane.specs.Corners.{offset}
use Rattle.lent.specs.declared.Fault.{Fault}
use Rattle.lent.specs.declared.Reason.{Reason}
use Rattle.lent.specs.Refusals.{code_of}
use Rattle.wkb.specs.declared.Cursor.{Cursor}
use Rattle.wkb.specs.declared.Step.{Step}
use Rattle.wkb.specs.declared.Step.TheVariants.{Geometry, Ring, Point, End, Refused}
use Rattle.sheet.specs.declared.Build.{Build}
use Rattle.sheet.specs.declared.Reached.{Reached}
use Rattle.sheet.specs.Reading.{Taken, Reading, Turn, on, over, run}

-- Numbers written over the front of lent ones, as far as there is room; what stands behind them stays.
unfoldable pub laid : List ℕ → List ℕ → List ℕ
laid l out = take (length out) l ++ drop (length l) out

-- The struct b and the lent numbers show what was taken; out is what was lent at first.
pub record Shows (out : List ℕ) (t : Taken) (b : Build) (numbers : List ℕ) : Type 0 where
  pub fill : b.fill ≡ length t.numbers
  pub laid_over : numbers ≡ laid t.numbers out
  pub mark : b.mark ≡ t.mark
  pub first : b.first ≡ t.first
  pub x : b.x ≡ t.x
  pub y : b.y ≡ t.y

-- A fault with this reason, item and position.
abbrev pub fault_of : Reason → ℕ → ℕ → Fault
fault_of reason item position = record { refusal = record { reason = reason; item = item }; position = position }

-- Reading is over with the fault, and with the numbers so far.
abbrev pub Ends : List ℕ → Reading → Fault → List ℕ → Type 0
Ends out r f numbers = (code_of f.refusal.reason ≡ r.code) × (f.refusal.item ≡ r.item) × (f.position ≡ r.position) × (numbers ≡ laid r.numbers out)

-- What the code comes to shows the turn that the definitions take: a place that was reached, or the fault with which reading is over.
abbrev pub Turned : List ℕ → Turn → Result Reached Fault → List ℕ → Type 0
Turned out (on c t) (Ok q) numbers = (q.place ≡ c) × Shows out t q.build numbers
Turned out (on c t) (Err f) numbers = ⊥
Turned out (over r) (Ok q) numbers = ⊥
Turned out (over r) (Err f) numbers = Ends out r f numbers

-- Counts of a place that has been reached by steps are small: each can be held.
pub record Sane (c : Cursor) : Type 0 where
  pub polygons : c.polygons ≤ 64
  pub members : c.members ≤ offset
  pub limit : c.limit ≤ offset

-- A place and what was read fit each other and the bytes.
pub record Within (s : List ℕ) (c : Cursor) (b : Build) : Type 0 where
  pub sane : Sane c
  pub filled : b.fill ≤ c.at
  pub inside : c.at ≤ length s

-- The answer of a step, with what was read, can be taken: it is no end.
abbrev pub Ready : Cursor → Build → Step → Type 0
Ready c b (Geometry kind n d) = (n ≤ offset) × (d.polygons ≤ 64) × (b.fill + 3 < 2 ^ 64)
Ready c b (Ring n d) = (n ≤ 4096) × (b.fill + 3 < 2 ^ 64)
Ready c b (Point x y d) = (c.members ≤ offset) × (c.at + 8 < 2 ^ 64) × (b.fill + 3 < 2 ^ 64)
Ready c b (End d) = ⊥
Ready c b (Refused reason item field d) = Unit {0}

-- Where an answer of a step leads: reading goes on at the next place, with at most three numbers more, or is over. It goes on from a geometry
-- and a ring; at a point it may be over; a refusal keeps its reason; an end leads nowhere.
abbrev pub Leads : Step → Build → Result Reached Fault → Type 0
Leads (Geometry kind n c) b (Ok q) = (q.place ≡ c) × (q.build.fill ≤ b.fill + 3)
Leads (Ring n c) b (Ok q) = (q.place ≡ c) × (q.build.fill ≤ b.fill + 3)
Leads (Point x y c) b (Ok q) = (q.place ≡ c) × (q.build.fill ≤ b.fill + 3)
Leads (End c) b (Ok q) = ⊥
Leads (Refused reason item field c) b (Ok q) = ⊥
Leads (Geometry kind n c) b (Err f) = ⊥
Leads (Ring n c) b (Err f) = ⊥
Leads (Point x y c) b (Err f) = Unit {0}
Leads (End c) b (Err f) = ⊥
Leads (Refused reason item field c) b (Err f) = f.refusal.reason ≡ reason

-- Reading goes on within the bytes, at k or after it, or is over with a refusal.
abbrev pub Safe : List ℕ → ℕ → Result Reached Fault → Type 0
Safe s k (Ok q) = Within s q.place q.build × (k ≤ q.place.at)
Safe s k (Err f) = Unit {0}

-- Reading from a place on: with as many steps as there are bytes left, and some.
unfoldable pub reading : List ℕ → Cursor → Taken → Reading
reading s c b = run (suc (suc (length s) - c.at)) s c b

-- Reading on from where the code comes to comes to r, or is over with r.
abbrev pub Onward : List ℕ → List ℕ → Reading → Result Reached Fault → List ℕ → Type 0
Onward s out r (Ok q) numbers = (t : Taken) × Shows out t q.build numbers × (reading s q.place t ≡ r)
Onward s out r (Err f) numbers = Ends out r f numbers

-- Reading from c, with what is shown at first, comes to r, not before the byte k, and to what is shown then.
abbrev pub Follows : List ℕ → Cursor → Build → List ℕ → ℕ → Result Reached Fault → List ℕ → Type 0
Follows s c b numbers k r more = Safe s k r × ((t : Taken) (out : List ℕ) → Shows out t b numbers → Onward s out (reading s c t) r more)

-- The answer of a reading: a sheet of so many numbers, or the refusal with its position.
abbrev pub ReadAs : Reading → Result ℕ Fault → Type 0
ReadAs r (Ok n) = (r.code ≡ 0) × (n ≡ length r.numbers)
ReadAs r (Err f) = (code_of f.refusal.reason ≡ r.code) × (f.refusal.item ≡ r.item) × (f.position ≡ r.position)
