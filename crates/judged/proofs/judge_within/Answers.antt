-- `judged::judge_within` meets its contract: the work lists are long enough, so their fronts are as long as the table asks. Assumes nothing.
use Rattle.std.proofs.Common.{◌≡◌, ◌∙◌, ℕ, ◌*◌, ◌≤◌, length, take, arith}
use lib.ListN.{replicate, length-replicate}
use lib.Seq.{length-take-le}
use Rattle.judged.proofs.judge_within.Goals as goal

front : {sides m : ℕ} (t : ℕ) → m ≡ 3 * t → 3 * t ≤ sides → length (take m (replicate {A = ℕ} sides 0)) ≡ 3 * t
front {sides} {m} t e h = length-take-le m (replicate sides 0) (omega (arith, length-replicate {A = ℕ} sides 0)) ∙ e

pub judge_in-requires : goal.judge_in-requires
judge_in-requires g c = let p = c.requires in let w = front (length c.args.sets.now) p.1 p.2 in (p.0, record { keys = w; ordered = w; index = w; opposite = p.1 })
