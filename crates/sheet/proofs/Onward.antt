-- What the code comes to and the rest of reading: where it goes on, reading on from there comes to the same; where it is over, reading is.
-- Assumes nothing.
use mathlib.Core.Path.{◌≡◌, sym, ◌∙◌, ap, subst}
use mathlib.Core.List.{List}
use Rattle.std.specs.Prelude.{Result, Ok, Err}
use Rattle.lent.specs.declared.Fault.{Fault}
use Prim.Native.Nat.{ℕ, ◌+◌, ◌^◌, ◌≤◌, ◌<◌}
use native.Mathlib.Omega.{arith}
use lib.ListN.{length}
use Rattle.wkb.specs.declared.Cursor.{Cursor}
use Rattle.wkb.specs.declared.Step.{Step}
use Rattle.wkb.specs.declared.Step.TheVariants.{Geometry, Ring, Point, End, Refused}
use Rattle.wkb.specs.declared.Told.{Told}
use Rattle.wkb.specs.Steps.{step_at}
use Rattle.sheet.specs.declared.Build.{Build}
use Rattle.sheet.specs.declared.Reached.{Reached}
use Rattle.sheet.specs.Reading.{Taken, Turn, on, over, taken, turn}
use Rattle.sheet.specs.Going.{Shows, Turned, Sane, Within, Ready, Leads, Ends, Safe, Onward, Follows, reading}
use Rattle.sheet.proofs.Run.{Ahead, Moved, step_moved, reading_turns}
use Rattle.sheet.proofs.Sane.{Kept, step_kept}

-- The answer of what a step tells.
abbrev pub answer : Told → Step
answer t = t.step

-- The answer of a step within a geometry: no end.
abbrev pub Goes : Step → Type 0
Goes (Geometry kind n d) = Unit {0}
Goes (Ring n d) = Unit {0}
Goes (Point x y d) = Unit {0}
Goes (End d) = ⊥
Goes (Refused reason item field d) = Unit {0}

-- The answer of a step within a geometry, at a place within the bytes, can be taken.
pub ready : (s : List ℕ) (c : Cursor) (b : Build) → length s < 2 ^ 64 → Within s c b → Goes (step_at s c) → Ready c b (step_at s c)
ready s c b l h = go (step_at s c) (step_moved s c) (step_kept s c h.sane)
  where
    go : (a : Step) → Moved s c a → Kept a → Goes a → Ready c b a
    go (Geometry kind n d) m k g = (k.0, k.1.polygons, omega (arith, h.filled))
    go (Ring n d) m k g = (k.0, omega (arith, h.filled))
    go (Point x y d) m k g = (h.sane.members, omega arith, omega (arith, h.filled))
    go (End d) m k g = absurd g
    go (Refused reason item field d) m k g = tt

-- Where it leads is within the bytes, and ahead.
pub ahead : (s : List ℕ) (c : Cursor) (b : Build) (q : Reached) → Within s c b → Leads (step_at s c) b (Ok q) → Within s q.place q.build × (c.at + 4 ≤ q.place.at)
ahead s c b q h = go (step_at s c) (step_moved s c) (step_kept s c h.sane)
  where
    there : (d : Cursor) → Ahead s c d → Sane d → (q.place ≡ d) × (q.build.fill ≤ b.fill + 3) → Within s q.place q.build × (c.at + 4 ≤ q.place.at)
    there d m k l =
        let p : q.place.at ≡ d.at = ap (λ (z : Cursor). z.at) l.0 in
        (record { sane = subst Sane (sym l.0) k; filled = omega (arith, h.filled, l.1); inside = omega arith }, omega arith)

    go : (a : Step) → Moved s c a → Kept a → Leads a b (Ok q) → Within s q.place q.build × (c.at + 4 ≤ q.place.at)
    go (Geometry kind n d) m k l = there d (omega arith, m.1) k.1 l
    go (Ring n d) m k l = there d (omega arith, m.1) k.1 l
    go (Point x y d) m k l = there d (omega arith, m.1) k l
    go (End d) m k l = absurd l
    go (Refused reason item field d) m k l = absurd l

-- What the code comes to shows what is left of reading.
pub onward : (s out : List ℕ) (c : Cursor) (t : Taken) (r : Result Reached Fault) (numbers : List ℕ) → Turned out (taken c t (step_at s c)) r numbers → Onward s out (reading s c t) r numbers
unfolding turn
onward s out c t r numbers = go (taken c t (step_at s c)) r (reading_turns s c t)
  where
    go : (u : Turn) (r : Result Reached Fault) → reading s c t ≡ elim u [ on c' b' ↦ reading s c' b' | over q ↦ q ] → Turned out u r numbers → Onward s out (reading s c t) r numbers
    go (on d u) (Ok x) q h = (u, h.1, subst (λ z. reading s z u ≡ reading s c t) (sym h.0) (sym q))
    go (on d u) (Err f) q h = absurd h
    go (over v) (Ok x) q h = absurd h
    go (over v) (Err f) q h = subst (λ z. Ends out z f numbers) (sym q) h

-- What was read in lent numbers, and what is shown later at another place, come to the same in the end.
pub record Trail (s : List ℕ) (c₀ : Cursor) (b₀ : Build) (numbers₀ : List ℕ) (c : Cursor) (b : Build) (numbers : List ℕ) : Type 0 where
  pub leads : (t : Taken) (out : List ℕ) → Shows out t b₀ numbers₀ → (u : Taken) × Shows out u b numbers × (reading s c u ≡ reading s c₀ t)

-- Reading from a place is over with a fault.
pub record Stops (s : List ℕ) (c : Cursor) (b : Build) (numbers : List ℕ) (f : Fault) (more : List ℕ) : Type 0 where
  pub ends : (t : Taken) (out : List ℕ) → Shows out t b numbers → Ends out (reading s c t) f more

-- What a step and the taking of its answer come to, where reading goes on and where it is over.
module _ (s : List ℕ) (c : Cursor) (b : Build) (a : Step) (numbers more : List ℕ) (e : a ≡ step_at s c) where
  pub goes_on : (q : Reached) → Leads a b (Ok q) × ((t : Taken) (out : List ℕ) → Shows out t b numbers → Turned out (taken c t a) (Ok q) more) → Within s c b
      → Within s q.place q.build × (c.at + 4 ≤ q.place.at) × Trail s c b numbers q.place q.build more
  goes_on q h w =
      let l : Leads (step_at s c) b (Ok q) = rw (← e) h.0 in
      let v = ahead s c b q w l in
      (v.0, v.1, record { leads = λ t out k. onward s out c t (Ok q) more (rw (← e) (h.1 t out k)) })

  pub is_over : (f : Fault) → Leads a b (Err f) × ((t : Taken) (out : List ℕ) → Shows out t b numbers → Turned out (taken c t a) (Err f) more) → Stops s c b numbers f more
  is_over f h = record { ends = λ t out k. onward s out c t (Err f) more (rw (← e) (h.1 t out k)) }

-- A trail, followed further, and to its end.
module _ {s : List ℕ} {c₀ : Cursor} {b₀ : Build} {numbers₀ : List ℕ} {c : Cursor} {b : Build} {numbers : List ℕ} (h : Trail s c₀ b₀ numbers₀ c b numbers) where
  pub follow : {d : Cursor} {f : Build} {more : List ℕ} → Trail s c b numbers d f more → Trail s c₀ b₀ numbers₀ d f more
  follow {d} {f} {more} g = record { leads = λ t out k. let w = h.leads t out k in let v = g.leads w.0 out w.1 in (v.0, v.1, v.2 ∙ w.2) }

  pub follow_over : {f : Fault} {more : List ℕ} → Stops s c b numbers f more → Stops s c₀ b₀ numbers₀ f more
  follow_over {f} {more} g = record { ends = λ t out k. let w = h.leads t out k in subst (λ z. Ends out z f more) w.2 (g.ends w.0 out w.1) }

-- ---- whatever the code comes to
pub safe_earlier : (s : List ℕ) (k l : ℕ) (r : Result Reached Fault) → k ≤ l → Safe s l r → Safe s k r
safe_earlier s k l (Ok q) h w = (w.0, omega (arith, w.1))
safe_earlier s k l (Err f) h w = w

pub any_turn : (s : List ℕ) (c : Cursor) (b : Build) (a : Step) (r : Result Reached Fault) (numbers more : List ℕ) → a ≡ step_at s c
    → Leads a b r × ((t : Taken) (out : List ℕ) → Shows out t b numbers → Turned out (taken c t a) r more) → Within s c b
    → Follows s c b numbers (c.at + 1) r more
any_turn s c b a r numbers more e h w = (safe r (rw (← e) h.0), λ t out k. onward s out c t r more (rw (← e) (h.1 t out k)))
  where
    safe : (r : Result Reached Fault) → Leads (step_at s c) b r → Safe s (c.at + 1) r
    safe (Ok q) l = let v = ahead s c b q w l in (v.0, omega (arith, v.1))
    safe (Err f) l = tt

-- A call that reads on, by what it came to.
module _ (s : List ℕ) (c : Cursor) (b : Build) (numbers more : List ℕ) (k : ℕ) where
  pub went_on : (q : Reached) → Follows s c b numbers k (Ok q) more → Within s q.place q.build × (k ≤ q.place.at) × Trail s c b numbers q.place q.build more
  went_on q h = (h.0.0, h.0.1, record { leads = h.1 })

  pub was_over : (f : Fault) → Follows s c b numbers k (Err f) more → Stops s c b numbers f more
  was_over f h = record { ends = h.1 }

  -- After a trail that led to where the call began.
  pub after : (r : Result Reached Fault) → Follows s c b numbers k r more → (c₀ : Cursor) (b₀ : Build) (numbers₀ : List ℕ) → c₀.at + 4 ≤ k → Trail s c₀ b₀ numbers₀ c b numbers
      → Follows s c₀ b₀ numbers₀ (c₀.at + 1) r more
  after r h c₀ b₀ numbers₀ l g = (safe_earlier s (c₀.at + 1) k r (omega arith) h.0, λ t out m. let w = g.leads t out m in subst (λ z. Onward s out z r more) w.2 (h.1 w.0 out w.1))
