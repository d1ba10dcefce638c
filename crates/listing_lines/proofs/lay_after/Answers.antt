-- The figure of the polygon that comes is laid down behind those before it.
use Rattle.std.proofs.Common.{◌≤◌, length, arith}
use Rattle.listing_lines.specs.Printing.{owned_by}
use Rattle.listing_lines.proofs.Lines.{laid_none, laid_more, laid_all}
use Rattle.listing_lines.proofs.lay_after.Goals as goal

pub loop-k-init : goal.loop-k-init
loop-k-init c = laid_none (owned_by c.args.sets.now c.args.owners.now c.args.areas.now) (length c.args.doubles.now) c.args.doubles.now

pub loop-k-preserved : goal.loop-k-preserved
loop-k-preserved c =
    laid_more (owned_by c.args.sets.now c.args.owners.now c.args.areas.now) (length c.args.doubles.now) c.loop-k.doubles c.loop-k.k c.tally-figure.result.area (omega arith) (omega arith)
    c.tally-figure.ensures.1 c.loop-k.invariant

pub returns : goal.returns
returns c =
    laid_all (owned_by c.args.sets.now c.args.owners.now c.args.areas.now) (length c.args.doubles.now) c.loop-k.doubles c.loop-k.k (omega arith) (omega arith) c.loop-k.invariant
