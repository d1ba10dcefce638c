-- Each number that is read is paid for with four bytes: a header of 9 bytes adds two at most, a ring's count of 4 bytes one, and a point of 16 bytes three. So the
-- bytes bound the numbers. Assumes nothing.
use mathlib.Core.Path.{◌≡◌}
use mathlib.Core.Bool.{cond, ◌&&◌}
use mathlib.Core.List.{List, [], ◌∷◌}
use Prim.Native.Nat.{ℕ, zero, suc, ◌+◌, ◌*◌, ◌≤◌}
use native.Mathlib.Omega.{arith}
use lib.Dec.{eqb}
use lib.ListN.{length, length-append, length-set}
use Rattle.whole.proofs.Tests.{by_cond}
use Rattle.sheet_coordinate.specs.Coordinate.{coordinate_of}
use Rattle.std.specs.Prelude.{Option, Some, None}
use Rattle.wkb_kinds.specs.declared.Slot.{Slot}
use Rattle.wkb_kinds.specs.declared.Slot.TheVariants.{Sheet, Table, Piece, Part, Member}
use Rattle.wkb.specs.declared.Cursor.{Cursor}
use Rattle.wkb.specs.declared.Step.{Step}
use Rattle.wkb.specs.declared.Step.TheVariants.{Geometry, Ring, Point, End, Refused}
use Rattle.wkb.specs.Steps.{start, slot_of, step_at}
use Rattle.sheet.specs.Reading.{Taken, nothing, marked, held, push, tally, begin, polygon, opening, in_table, ringing, noted, closing, last_of_table, pointing, differs, Reading, Turn, on, over, judged, taken, turn, run, reading_of}
use Rattle.sheet.proofs.Run.{Moved, step_moved}

-- ---- what a field adds
-- At most so many numbers more.
abbrev Adds : ℕ → Taken → Taken → Type 0
Adds k b t = length t.numbers ≤ length b.numbers + k

push_adds : (v k : ℕ) (b t : Taken) → Adds k b t → Adds (suc k) b (push v t)
push_adds v k b t h = omega (arith, h, length-append t.numbers (v ∷ []))

polygon_adds : (c : Cursor) (n k : ℕ) (b t : Taken) → Adds k b t → Adds (suc k) b (polygon c n t)
polygon_adds c n k b t h = push_adds (held n) k b (tally c.polygons t) (omega (arith, h, length-set t.numbers t.mark (held c.polygons)))

opening_adds : (slot : Slot) (c c' : Cursor) (kind n : ℕ) (b : Taken) → Adds 2 b (opening slot c c' kind n b)
unfolding opening
opening_adds Sheet c c' kind n b = omega arith
opening_adds Table c c' kind n b = omega (arith, push_adds (held n) 0 b b (omega arith))
opening_adds Piece c c' kind n b = omega arith
opening_adds Part c c' kind n b = omega (arith, polygon_adds c' n 0 b b (omega arith))
opening_adds Member c c' kind n b =
    let b' : Taken = cond c.header (begin b) b in
    let own : Adds 1 b b' = by_cond (Adds 1 b) c.header (begin b) b (λ t. push_adds (held 0) 0 b (marked (length b.numbers) b) (omega arith)) (omega arith) in
    by_cond (Adds 2 b) (eqb kind 3) (polygon c' n b') b' (λ t. polygon_adds c' n 1 b b' own) (omega (arith, own))

ringing_adds : (c : Cursor) (n : ℕ) (b : Taken) → Adds 1 b (ringing c n b)
unfolding ringing
ringing_adds c n b = by_cond (Adds 1 b) (in_table c) b (push (held n) b) (λ t. omega arith) (push_adds (held n) 0 b b (omega arith))

pointing_adds : (c : Cursor) (x y : ℕ) (b : Taken) → Adds 3 b (pointing c x y b)
unfolding pointing
pointing_adds c x y b =
    let b' : Taken = noted x y b in
    let none : Adds 0 b b' = omega arith in
    let b'' : Taken = cond (in_table c && closing c) b' (push y (push x b')) in
    let both : Adds 2 b b'' = by_cond (Adds 2 b) (in_table c && closing c) b' (push y (push x b')) (λ t. omega (arith, none)) (push_adds y 1 b (push x b') (push_adds x 0 b b' none)) in
    by_cond (Adds 3 b) (last_of_table c) (push (held c.members) b'') b'' (λ t. push_adds (held c.members) 2 b b'' both) (omega (arith, both))

-- ---- a turn
-- Four bytes were read for each number, and no more than there are.
abbrev Paid : List ℕ → Cursor → Taken → Type 0
Paid s c b = (4 * length b.numbers ≤ c.at) × (c.at ≤ length s)

abbrev Good : List ℕ → Turn → Type 0
Good s (on c b) = Paid s c b
Good s (over r) = 4 * length r.numbers ≤ length s

turn_good : (s : List ℕ) (c : Cursor) (b : Taken) → Paid s c b → Good s (turn s c b)
unfolding turn taken judged
turn_good s c b h = go (step_at s c) (step_moved s c)
  where
    enough : 4 * length b.numbers ≤ length s
    enough = omega (arith, h.0, h.1)

    point : (c' : Cursor) → (c'.at ≡ c.at + 16) × (c'.at ≤ length s) → (x y : Option ℕ) → Good s (judged c c' b x y)
    point c' m None y = enough
    point c' m (Some x) None = enough
    point c' m (Some x) (Some y) = by_cond (Good s) (differs c x y b) _ _ (λ t. enough) (omega (arith, h.0, m.0, pointing_adds c x y b), m.1)

    go : (a : Step) → Moved s c a → Good s (taken c b a)
    go (Geometry kind n c') m = (omega (arith, h.0, m.0, opening_adds (slot_of c) c c' kind n b), m.1)
    go (Ring n c') m = (omega (arith, h.0, m.0, ringing_adds c n b), m.1)
    go (Point x y c') m = point c' m (coordinate_of x) (coordinate_of y)
    go (End c') m = enough
    go (Refused reason item field c') m = enough

-- ---- reading
run_paid : (n : ℕ) (s : List ℕ) (c : Cursor) (b : Taken) → Paid s c b → 4 * length (run n s c b).numbers ≤ length s
unfolding run
run_paid zero s c b h = omega (arith, h.0, h.1)
run_paid (suc n) s c b h = go (turn s c b) (turn_good s c b h) (λ c' b'. run_paid n s c' b')
  where
    go : (t : Turn) → Good s t → ((c' : Cursor) (b' : Taken) → Paid s c' b' → 4 * length (run n s c' b').numbers ≤ length s)
        → (let r : Reading = elim t [ on c' b' ↦ run n s c' b' | over r ↦ r ] in 4 * length r.numbers ≤ length s)
    go (on c' b') k f = f c' b' k
    go (over r) k f = k

pub numbers_paid : (limit : ℕ) (s : List ℕ) → 4 * length (reading_of limit s).numbers ≤ length s
numbers_paid limit s = run_paid (suc (length s)) s (start limit) nothing (omega arith, omega arith)
