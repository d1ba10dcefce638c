-- What is to come at a place says which field its step reads. The idea: it decides the tests of the step's definition. Assumes nothing.
use mathlib.Core.Path.{◌≡◌}
use mathlib.Core.List.{List}
use Prim.Native.Nat.{ℕ}
use native.Mathlib.Omega.{arith}
use borrow.Author.Tests.{lt-ltb, le-ltb}
use Rattle.wkb.specs.declared.Cursor.{Cursor}
use Rattle.wkb.specs.Steps.{geometry_at, ring_at, point_at, end_at, step_at}
use Rattle.wkb.specs.Faults.{PointDue, RingDue, EndDue, HeaderDue}

module _ (s : List ℕ) (c : Cursor) where
  pub at_point : PointDue c → step_at s c ≡ point_at s c
  unfolding step_at
  at_point p = rw (lt-ltb 0 c.points p)

  pub at_ring : RingDue c → step_at s c ≡ ring_at s c
  unfolding step_at
  at_ring (p, r) = rw (le-ltb 0 c.points (omega arith), lt-ltb 0 c.rings r)

  pub at_end : EndDue c → step_at s c ≡ end_at s c
  unfolding step_at
  at_end (p, r, t) = rw (le-ltb 0 c.points (omega arith), le-ltb 0 c.rings (omega arith), t)

  pub at_header : HeaderDue c → step_at s c ≡ geometry_at s c
  unfolding step_at
  at_header (p, r, t) = rw (le-ltb 0 c.points (omega arith), le-ltb 0 c.rings (omega arith), t)
