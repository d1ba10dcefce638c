-- What is reached inside an open polygon: nothing further, by one step, and by going on from there. Assumes nothing.
use mathlib.Core.Path.{◌≡◌, refl, ◌∙◌}
use mathlib.Core.Bool.{true}
use mathlib.Core.List.{List}
use Rattle.std.specs.Prelude.{Ok}
use Prim.Native.Nat.{ℕ, ◌+◌, ◌<◌}
use native.Mathlib.Omega.{arith}
use borrow.Author.Tests.{lt-ltb, le-ltb}
use lib.Ieee.{Float}
use Rattle.lent_little.specs.Ordered.{remains, word_at, double_at}
use Rattle.wkb.specs.declared.Cursor.{Cursor}
use Rattle.wkb.specs.declared.Step.{Step}
use Rattle.wkb.specs.declared.Step.TheVariants.{Ring, Point}
use Rattle.wkb.specs.Steps.{ring_fits, with_points, ring_at, after_point, point_at, step_at}
use Rattle.sheet.specs.declared.Build.{Build}
use Rattle.sheet.specs.declared.Reached.{Reached}
use Rattle.sheet.specs.Reading.{Taken, taken}
use Rattle.sheet.specs.Going.{Shows, Turned, Within, Leads}
use Rattle.sheet.specs.Rings.{Reaches}
use Rattle.sheet.proofs.Onward.{goes_on}
use Rattle.sheet.proofs.Closed.{nearer, goes_nearer}

-- ---- the two fields inside a polygon
-- A ring's count is there and fits.
pub ring_step : (s : List ℕ) (c : Cursor) (n : ℕ) → c.points ≡ 0 → 0 < c.rings + c.points → remains s c.at 4 ≡ true → n ≡ word_at c.little s c.at → ring_fits c n ≡ true
    → Ring n (with_points n c) ≡ step_at s c
unfolding step_at ring_at
ring_step s c n z o l e f = rw (le-ltb 0 c.points (omega arith), lt-ltb 0 c.rings (omega arith), l, ← e, f) refl

-- A point is there.
pub point_step : (s : List ℕ) (c : Cursor) (x y : Float) → 0 < c.points → remains s c.at 16 ≡ true → x ≡ double_at c.little s c.at → y ≡ double_at c.little s (c.at + 8)
    → Point x y (after_point c) ≡ step_at s c
unfolding step_at point_at
point_step s c x y o l d e = rw (lt-ltb 0 c.points o, l, d, e) refl

-- ---- what is reached
module _ (s : List ℕ) (c : Cursor) (b : Build) (numbers : List ℕ) (w : Within s c b) (o : 0 < c.rings + c.points) where
  pub reach_step : (a : Step) (q : Reached) (more : List ℕ) → a ≡ step_at s c
      → Leads a b (Ok q) × ((t : Taken) (out : List ℕ) → Shows out t b numbers → Turned out (taken c t a) (Ok q) more) → Reaches s c b numbers q more × (c.at < q.place.at)
  reach_step a q more e h =
      let g = goes_on s c b a numbers more e q h w in
      ((((g.0, omega (arith, g.1)), g.2.leads), goes_nearer s c b a o e q h.0), omega (arith, g.1))

pub reach_on : (s : List ℕ) (c : Cursor) (b : Build) (numbers : List ℕ) (r : Reached) (more : List ℕ) (q : Reached) (most : List ℕ) → 0 < r.place.rings + r.place.points
    → Reaches s c b numbers r more → Reaches s r.place r.build more q most → Reaches s c b numbers q most
reach_on s c b numbers r more q most o h g = (
  ((g.0.0.0, omega (arith, h.0.0.1, g.0.0.1)), λ t out k. let w = h.0.1 t out k in let v = g.0.1 w.0 out w.1 in (v.0, v.1, v.2 ∙ w.2)),
  nearer c r.place q.place o h.1 g.1,
)
