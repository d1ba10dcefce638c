-- The beginning and the end of reading: nothing is read at first and the sheet's own geometry stands there; behind it the step is the end or 7,
-- with which reading is over.
-- The idea: a trail from the beginning shows, at the last step, the reading of the sheet. Assumes nothing.
use mathlib.Core.Path.{◌≡◌, refl, sym, ◌∙◌, ap}
use mathlib.Core.Bool.{false, not, and-eq-true_iff}
use mathlib.Core.List.{List}
use Rattle.std.specs.Prelude.{Ok, Err}
use Rattle.lent.specs.declared.Fault.{Fault}
use Rattle.lent.specs.declared.Reason.TheVariants.{Behind}
use Rattle.lent.specs.Refusals.{code_of}
use Prim.Native.Nat.{ℕ, ◌≤◌}
use native.Mathlib.Omega.{arith}
use borrow.Author.Tests.{le-ltb, ltb-false, eqb-false}
use lib.Dec.{ltb, eqb}
use lib.ListN.{length}
use Rattle.whole.proofs.Tests.{by_equal}
use Rattle.plane.specs.Corners.{offset}
use Rattle.wkb.specs.declared.Cursor.{Cursor}
use Rattle.wkb.specs.declared.Step.{Step}
use Rattle.wkb.specs.declared.Step.TheVariants.{Geometry, Ring, Point, End, Refused}
use Rattle.wkb.specs.Steps.{start, slot_of, complete, end_at, step_at}
use Rattle.wkb.proofs.Complete.{is_complete}
use Rattle.sheet.specs.declared.Build.{Build}
use Rattle.sheet.specs.Reading.{Taken, Reading, on, over, nothing, ended, taken, turn, reading_of}
use Rattle.sheet.specs.Going.{laid, fault_of, Shows, Within, ReadAs, reading}
use Rattle.sheet.specs.Behind.{levels, Begins, Finished}
use Rattle.sheet.proofs.Run.{reading_turns, reading_starts}
use Rattle.sheet.proofs.Laid.{laid_none}
use Rattle.sheet.proofs.Onward.{Trail, Stops}

-- ---- the beginning
abbrev pub empty : Build
empty = record { fill = 0; mark = 0; first = false; x = 0; y = 0 }

pub begun : (limit : ℕ) (s : List ℕ) → limit ≤ offset → Within s (start limit) empty
begun limit s h = record { sane = record { polygons = omega arith; members = omega arith; limit = h }; filled = omega arith; inside = omega arith }

-- The sheet stands there, with five levels inside.
pub sheet_stands : (limit depth : ℕ) → 5 ≤ depth → Begins depth (start limit)
unfolding levels slot_of complete
sheet_stands limit depth l = record { no_rings = refl; no_points = refl; more = refl; alone = λ t. refl; deep = l }

shown : (numbers : List ℕ) → Shows numbers nothing empty numbers
shown numbers = record { fill = refl; laid_over = sym (laid_none numbers); mark = refl; first = refl; x = refl; y = refl }

-- ---- the last step
-- The end, or 7 at the place.
abbrev pub Last : Cursor → Step → Type 0
Last c (Geometry kind n d) = ⊥
Last c (Ring n d) = ⊥
Last c (Point x y d) = ⊥
Last c (End d) = Unit {0}
Last c (Refused reason item field d) = (reason ≡ Behind) × (item ≡ 0) × (field ≡ c.at)

pub last_step : (s : List ℕ) (c : Cursor) → Finished c → c.at ≤ length s → Last c (step_at s c)
unfolding step_at end_at
last_step s c h l =
    let k = is_complete c ((and-eq-true_iff (not (eqb c.member 0)) (complete c)).0 h.0).1 in
    let r = k.no_rings in
    let p = k.no_points in
    rw (le-ltb 0 c.points (omega arith), le-ltb 0 c.rings (omega arith), h.0)
    (by_equal (Last c) (ltb c.at (length s)) _ _ (λ e. (refl, refl, refl)) (λ e.
    by_equal (Last c) (eqb c.at (length s)) _ _ (λ f. tt) (λ f. absurd (eqb-false c.at (length s) f (let z = ltb-false c.at (length s) e in omega arith)))))

-- Reading is over with it.
last_ends : (s : List ℕ) (c : Cursor) (u : Taken) → Last c (step_at s c) → reading s c u ≡ ended (step_at s c) u
unfolding turn taken
last_ends s c u l = reading_turns s c u ∙ go (step_at s c) l
  where
    go : (a : Step) → Last c a → ◌≡◌ {A = Reading} (elim (taken c u a) [ on c' b' ↦ reading s c' b' | over r ↦ r ]) (ended a u)
    go (Geometry kind n d) l = absurd l
    go (Ring n d) l = absurd l
    go (Point x y d) l = absurd l
    go (End d) l = refl
    go (Refused reason item field d) l = refl

-- ---- the end
module _ (limit : ℕ) (s numbers : List ℕ) where
  -- What was read from the beginning to the last step.
  module _ (c : Cursor) (b : Build) (more : List ℕ) (h : Trail s (start limit) empty numbers c b more) (l : Last c (step_at s c)) where
    comes_to : (u : Taken) × Shows numbers u b more × (reading_of limit s ≡ ended (step_at s c) u)
    comes_to = let w = h.leads nothing numbers (shown numbers) in (w.0, w.1, reading_starts limit s ∙ sym w.2 ∙ last_ends s c w.0 l)

    pub ends_sheet : (d : Cursor) → step_at s c ≡ End d → ReadAs (reading_of limit s) (Ok b.fill) × (more ≡ laid (reading_of limit s).numbers numbers)
    ends_sheet d e =
        let w = comes_to in
        let q : reading_of limit s ≡ ended (End d) w.0 = w.2 ∙ ap (λ a. ended a w.0) e in
        rw q ((refl, w.1.fill), w.1.laid_over)

    pub ends_seven : (field : ℕ) → field ≡ c.at → ((d : Cursor) → step_at s c ≡ End d → ⊥) → ReadAs (reading_of limit s) (Err (fault_of Behind 0 field)) × (more ≡ laid (reading_of limit s).numbers numbers)
    ends_seven field q f = let w = comes_to in rw w.2 (go (step_at s c) l f w.0 w.1.laid_over)
      where
        go : (a : Step) → Last c a → ((d : Cursor) → a ≡ End d → ⊥) → (u : Taken) → more ≡ laid u.numbers numbers → ReadAs (ended a u) (Err (fault_of Behind 0 field)) × (more ≡ laid u.numbers numbers)
        go (Geometry kind n d) l f u k = absurd l
        go (Ring n d) l f u k = absurd l
        go (Point x y d) l f u k = absurd l
        go (End d) l f u k = absurd (f d refl)
        go (Refused reason item field d) l f u k = ((ap code_of (sym l.0), sym l.1, q ∙ sym l.2), k)

  -- Reading that was over with a refusal.
  pub ends_refused : (f : Fault) (more : List ℕ) → Stops s (start limit) empty numbers f more → ReadAs (reading_of limit s) (Err f) × (more ≡ laid (reading_of limit s).numbers numbers)
  ends_refused f more h = let w = h.ends nothing numbers (shown numbers) in rw (reading_starts limit s) ((w.0, w.1, w.2), w.3)
