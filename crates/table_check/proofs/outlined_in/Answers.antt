-- `table_check::outlined_in` meets its contract: counts and labels, all set, stand in work lists of the library's own, as long as the table asks. Assumes nothing.
use Rattle.std.proofs.Common.{ℕ, arith}
use lib.ListN.{length-replicate}
use lib.Seq.{length-take-le}
use Rattle.table_check.proofs.Outlines.{labels_long, labels_set}
use Rattle.table_check.proofs.outlined_in.Goals as goal

pub compared-requires : goal.compared-requires
compared-requires g c =
    let p = c.requires in
    let k = c.args.keys.now in
    let m = g.row.TRIANGLES in
    (p.0, p.1, length-take-le _ _ (omega (arith, length-replicate {A = ℕ} g.row.SIDES 0)), labels_long m k p.0.n p.0.three (omega arith), labels_set m k p.0.n p.0.three (omega arith))
