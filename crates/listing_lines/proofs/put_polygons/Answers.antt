-- The next line is put behind those before it.
use Rattle.std.proofs.Common.{◌+◌, ◌*◌, ◌≤◌, arith}
use Rattle.lent_text.proofs.Texts.{nothing_put}
use Rattle.listing_lines.proofs.Lines.{line_behind}
use Rattle.listing_lines.proofs.put_polygons.Goals as goal

pub loop-k-init : goal.loop-k-init
loop-k-init c = record { place = omega arith; put = nothing_put c.args.text.now c.args.at }

pub loop-k-preserved : goal.loop-k-preserved
loop-k-preserved c = record {
  place = let p = c.put_line-here.ensures.0 in omega (arith, c.loop-k.invariant.place);
  put = line_behind c.args.word.now c.args.doubles.now c.loop-k.k (omega arith) (omega arith) c.loop-k.invariant.put c.put_line-here.ensures.1;
}
