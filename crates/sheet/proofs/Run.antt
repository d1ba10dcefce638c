-- Reading goes on: each step that is no end and no refusal goes forward, so the bytes that are left bound the steps, and reading from a
-- place is reading from the next one. Assumes nothing.
use mathlib.Core.Path.{◌≡◌, refl, ap}
use mathlib.Core.Bool.{Bool, not, ◌&&◌}
use mathlib.Core.List.{List}
use Prim.Native.Nat.{ℕ, zero, suc, ◌+◌, ◌-◌, ◌≤◌}
use native.Mathlib.Omega.{arith}
use lib.Dec.{ltb, eqb}
use lib.ListN.{length}
use Rattle.whole.proofs.Tests.{by_cond}
use Rattle.sheet_coordinate.specs.Coordinate.{coordinate_of}
use Rattle.std.specs.Prelude.{Option, Some, None}
use Rattle.wkb.specs.declared.Cursor.{Cursor}
use Rattle.wkb.specs.Places.{moved, points_to_come}
use Rattle.wkb_kinds.specs.declared.Slot.{Slot}
use Rattle.wkb_kinds.specs.declared.Slot.TheVariants.{Sheet, Table, Piece, Part, Member}
use Rattle.wkb.specs.declared.Step.{Step}
use Rattle.wkb.specs.declared.Step.TheVariants.{Geometry, Ring, Point, End, Refused}
use Rattle.wkb.specs.Steps.{start, slot_of, complete, renewed, popped, with_rings, with_parts, with_sheet, fewer_parts, opened, with_points, after_point, step_at}
use Rattle.wkb.proofs.Steps.{pops, members_opened}
use Rattle.wkb.proofs.Cases.{by_case}
use Rattle.sheet.specs.Reading.{Taken, Reading, Turn, on, over, noted, judged, taken, turn, run, reading_of, nothing}
use Rattle.sheet.specs.Going.{reading}

-- ---- a step goes forward, within the bytes
-- The next place is so many bytes ahead, and within the bytes: 9 for a header, 4 for a ring's count, 16 for a point.
abbrev pub AheadBy : ℕ → List ℕ → Cursor → Cursor → Type 0
AheadBy n s c c' = (c'.at ≡ c.at + n) × (c'.at ≤ length s)

abbrev pub Moved : List ℕ → Cursor → Step → Type 0
Moved s c (Geometry kind n c') = AheadBy 9 s c c'
Moved s c (Ring n c') = AheadBy 4 s c c'
Moved s c (Point x y c') = AheadBy 16 s c c'
Moved s c (End c') = Unit {0}
Moved s c (Refused reason item field c') = Unit {0}

-- It is a field or more ahead.
abbrev pub Ahead : List ℕ → Cursor → Cursor → Type 0
Ahead s c c' = (c.at + 4 ≤ c'.at) × (c'.at ≤ length s)

pub renewed_at : (c : Cursor) → (renewed c).at ≡ c.at
unfolding renewed
renewed_at c = by_cond (λ (d : Cursor). d.at ≡ c.at) (complete c && ltb 0 c.members) _ c (λ t. refl) refl

opened_at : (slot : Slot) (c : Cursor) (little : Bool) (kind n : ℕ) → (opened slot c little kind n).at ≡ c.at + 9
unfolding opened with_rings with_parts with_sheet fewer_parts
opened_at Sheet c little kind n = refl
opened_at Table c little kind n = ap (λ k. k + 9) (pops c).at
opened_at Piece c little kind n = refl
opened_at Part c little kind n = refl
opened_at Member c little kind n =
    by_cond (λ (d : Cursor). d.at ≡ c.at + 9) (eqb kind 3) _ _ (λ t. ap (λ k. k + 9) (pops c).at)
    (by_cond (λ (d : Cursor). d.at ≡ c.at + 9) (eqb kind 6) _ _ (λ t. ap (λ k. k + 9) (pops c).at)
    (members_opened (λ (d : Cursor). d.at ≡ c.at + 9) c n (popped c) (ap (λ k. k + 9) (pops c).at) (ap (λ k. k + 9) (pops c).at) (ap (λ k. k + 9) (pops c).at)))

pub step_moved : (s : List ℕ) (c : Cursor) → Moved s c (step_at s c)
unfolding with_points after_point
step_moved s c = by_case (Moved s c) s c (record {
  refused = λ reason field t f. tt;
  point = λ p l. let e = renewed_at (points_to_come (c.points - 1) (moved 16 c)) in (e, omega arith);
  ring = λ p r l n f. (refl, l);
  end = λ due. (λ e. tt, λ l. tt);
  geometry = λ p r t l little kind n k f. let e = opened_at (slot_of c) c little kind n in (e, omega arith);
})

-- ---- a turn goes forward too
abbrev pub Goes : List ℕ → Cursor → Turn → Type 0
Goes s c (on c' b) = Ahead s c c'
Goes s c (over r) = Unit {0}

pub turn_moved : (s : List ℕ) (c : Cursor) (b : Taken) → Goes s c (turn s c b)
unfolding turn taken judged
turn_moved s c b = go (step_at s c) (step_moved s c)
  where
    point : (c' : Cursor) → Ahead s c c' → (x y : Option ℕ) → Goes s c (judged c c' b x y)
    point c' h None y = tt
    point c' h (Some x) None = tt
    point c' h (Some x) (Some y) = by_cond (Goes s c) (eqb c.points 1 && not (eqb x (noted x y b).x && eqb y (noted x y b).y)) _ _ (λ t. tt) h

    go : (a : Step) → Moved s c a → Goes s c (taken c b a)
    go (Geometry kind n c') h = (omega arith, h.1)
    go (Ring n c') h = (omega arith, h.1)
    go (Point x y c') h = point c' ((omega arith, h.1)) (coordinate_of x) (coordinate_of y)
    go (End c') h = tt
    go (Refused reason item field c') h = tt

-- ---- enough steps
-- As many steps as there are bytes from the place on, and one.
abbrev pub enough : List ℕ → Cursor → ℕ
enough s c = suc (length s) - c.at

-- More steps than enough change nothing.
pub run_enough : (n m : ℕ) (s : List ℕ) (c : Cursor) (b : Taken) → 1 ≤ n → 1 ≤ m → enough s c ≤ n → enough s c ≤ m → run n s c b ≡ run m s c b
unfolding run
run_enough zero m s c b h k i j = absurd (omega arith)
run_enough (suc n) zero s c b h k i j = absurd (omega arith)
run_enough (suc n) (suc m) s c b h k i j = go (turn s c b) (turn_moved s c b) (λ c' b'. run_enough n m s c' b')
  where
    go : (t : Turn) → Goes s c t → ((c' : Cursor) (b' : Taken) → 1 ≤ n → 1 ≤ m → enough s c' ≤ n → enough s c' ≤ m → run n s c' b' ≡ run m s c' b')
        → ◌≡◌ {A = Reading} (elim t [ on c' b' ↦ run n s c' b' | over r ↦ r ]) (elim t [ on c' b' ↦ run m s c' b' | over r ↦ r ])
    go (on c' b') h r = r c' b' (omega arith) (omega arith) (omega arith) (omega arith)
    go (over r) h f = refl

-- Reading from a place is a turn, and reading from where it goes.
pub reading_turns : (s : List ℕ) (c : Cursor) (b : Taken) → reading s c b ≡ elim (turn s c b) [ on c' b' ↦ reading s c' b' | over r ↦ r ]
unfolding reading run
reading_turns s c b = go (turn s c b) (turn_moved s c b)
  where
    go : (t : Turn) → Goes s c t → ◌≡◌ {A = Reading} (elim t [ on c' b' ↦ run (enough s c) s c' b' | over r ↦ r ]) (elim t [ on c' b' ↦ reading s c' b' | over r ↦ r ])
    go (on c' b') h = run_enough (enough s c) (suc (enough s c')) s c' b' (omega arith) (omega arith) (omega arith) (omega arith)
    go (over r) h = refl

-- The reading of a sheet is reading from the place before the first byte.
pub reading_starts : (limit : ℕ) (s : List ℕ) → reading_of limit s ≡ reading s (start limit) nothing
unfolding reading
reading_starts limit s = run_enough (suc (length s)) (suc (suc (length s) - 0)) s (start limit) nothing (omega arith) (omega arith) (omega arith) (omega arith)
