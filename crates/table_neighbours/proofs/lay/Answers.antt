-- `table_neighbours::lay` meets its contract: each number is put behind those before it. Assumes nothing.
use Rattle.std.proofs.Common.{◌∙◌, ap, ◌++◌, ◌*◌, length, drop, arith}
use lib.Seq.{sets, take_all}
use Rattle.lent_little.specs.Ordered.{bytes}
use Rattle.lent_little.proofs.Bytes.{written_none, written_more, written_all}
use Rattle.table_neighbours.specs.Held.{held_index}
use Rattle.table_neighbours.proofs.Same.{number, two}
use Rattle.table_neighbours.proofs.lay.Goals as goal

pub loop-i-init : goal.loop-i-init
loop-i-init c = let o = c.args.opposite.now in written_none 2 number two o (length o) c.args.out.now

pub loop-i-preserved : goal.loop-i-preserved
loop-i-preserved c =
    written_more 2 number two c.loop-i.invariant c.put.new.out (omega arith) (omega arith) (omega (arith, c.requires.1)) (c.put.ensures ∙ ap (λ n. sets c.loop-i.out (2 * c.loop-i.i) (bytes 2 n)) c.triangle_of.ensures)

pub returns : goal.returns
returns c =
    let o = c.args.opposite.now in
    written_all 2 number two c.loop-i.invariant (omega arith) ∙ ap (λ l. held_index l ++ drop (2 * length o) c.args.out.now) (take_all (length o) o (omega arith))
