-- `judged_sets::judge_within` meets its contract: the work lists are long enough, so their fronts are as long as the table asks, and the edges of each polygon have room.
-- Assumes nothing.
use Rattle.std.proofs.Common.{◌≡◌, List, ℕ, ◌*◌, ◌/◌, ◌≤◌, min, length, take, false, arith}
use lib.ListN.{replicate, length-replicate}
use Rattle.table.specs.Sides.{triangles_of}
use Rattle.owners_judge.specs.Preparing.{WorkLists}
use Rattle.judged_sets.specs.Owning.{EdgeRoom}
use Rattle.judged_sets.proofs.Fronts.{fronts}
use Rattle.judged_sets.proofs.judge_within.Goals as goal

-- Work lists for `sides` sides and `most` triangles, of which there are t.
lists : {most sides t : ℕ} (keys : List ℕ) (n : ℕ) → sides ≡ 3 * most → length keys ≡ 3 * n → t ≡ length (triangles_of keys) → t ≤ most
    → WorkLists keys (take (3 * t) (replicate sides 0)) (take (3 * t) (replicate sides 0)) (take t (replicate most false)) (take t (replicate most 0))
lists {most} {sides} {t} keys n s three e h = rw s (fronts most keys n t three e h)

room : {edges : ℕ} (numbers : List ℕ) → min 4096 (length numbers / 2) ≤ edges → EdgeRoom numbers (replicate edges 0)
room {edges} numbers h k low half = omega (arith, length-replicate {A = ℕ} edges 0)

pub judge_in-requires : goal.judge_in-requires
judge_in-requires g c =
    let p = c.requires.0 in
    let r = room c.args.numbers.now c.requires.4 in
    ((p.0, record { indexed = p.1; areas = p.2 }, lists p.0 p.1.n c.requires.2 p.1.three p.3 (omega arith), p.3), c.requires.1, r, r)

pub returns : goal.returns
returns g c = (
  c.judge_in.ensures.0,
  λ keys n x areas held e s. c.judge_in.ensures.1 keys n (record { indexed = x; areas = areas }) held e (lists keys x.n c.requires.2 x.three s (omega arith)) s,
)
