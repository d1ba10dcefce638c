-- The work lists are as long as was asked.
use Rattle.std.proofs.Common.{ℕ, arith}
use lib.ListN.{length-replicate}
use Rattle.sheets_answers.proofs.answer_with.Goals as goal

pub answer_in-requires : goal.answer_in-requires
answer_in-requires g c =
    let p = c.requires in (
      omega (arith, p.0, length-replicate {A = ℕ} g.row.NUMBERS 0),
      omega (arith, p.1, length-replicate {A = ℕ} g.row.SIDES 0),
      omega (arith, p.2, length-replicate {A = ℕ} g.row.TRIANGLES 0),
    )
