-- What holds of the trimmed edges holds of all edges.
use Rattle.std.proofs.Common.{Bool, true, false, List, ℕ, take, ◌∙◌}
use Rattle.whole.specs.Tests.{Told}
use Rattle.plane.specs.Points.{Edge}
use Rattle.table_count.specs.Counting.{Looked, Tallied, Settled, Stray, pieces_of}
use Rattle.table_trim.specs.Trimming.{Reduced}
use Rattle.table_trim.proofs.Loose.{reduced_tallied, reduced_settled, reduced_stray}
use Rattle.table_trim.proofs.tally_in.Goals as goal

whole : (r : Bool) (sides : List Edge) (corners index from to fs ts : List ℕ) → Looked sides corners index → Reduced corners from to fs ts → (counts : List ℕ)
    → Told r (Tallied sides (pieces_of corners fs ts) counts × Settled sides (pieces_of corners fs ts) (pieces_of corners fs ts)) (Stray sides (pieces_of corners fs ts))
    → Told r (Tallied sides (pieces_of corners from to) counts × Settled sides (pieces_of corners from to) (pieces_of corners from to)) (Stray sides (pieces_of corners from to))
whole true sides corners index from to fs ts looked reduced counts h = (reduced_tallied sides corners index from to fs ts looked reduced counts h.0, reduced_settled sides corners index from to fs ts looked reduced h.1)
whole false sides corners index from to fs ts looked reduced counts h = reduced_stray sides corners index from to fs ts looked reduced h

pub returns : goal.returns
returns c = λ sides looked n.
    let a = c.args in
    let t = c.trim_all in
    whole c.tally.result sides a.corners.now a.index.now a.from.now a.to.now (take c.in-Some.m t.new.fs) (take c.in-Some.m t.new.ts) looked c.in-Some.ensures.1 c.tally.new.counts (c.tally.ensures.2 sides looked (c.clear.ensures.0 ∙ n))
