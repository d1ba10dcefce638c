-- Of the first k polygons the sets are found and marked, and the others stand at the place.
use Rattle.std.proofs.Common.{List, ℕ, ℤ}
use Rattle.plane.specs.Members.{Member}
use Rattle.table.specs.Sides.{triangles_of}
use Rattle.owners_judge.specs.Preparing.{Prepared, WorkLists}
use Rattle.judged_sets.specs.Owning.{PolygonsAt}
use Rattle.judged_sets.proofs.Following.{Following}
use Rattle.judged_sets.proofs.polygons.Given as goal

abbrev pub invariant-loop-k : goal.invariant-loop-k
invariant-loop-k l =
    (keys : List ℕ) (ms : List Member) (rest : List ℤ) → Prepared keys l.ordered l.index l.opposite → WorkLists keys l.fn.counts l.fn.touched l.fn.labels l.fn.group → PolygonsAt l.numbers l.first ms rest
    → Following (triangles_of keys) l.numbers ms rest l.at l.k l.sets
