-- The triangle across is one of the table's.
use Rattle.std.proofs.Common.{arith}
use Rattle.table_labels.proofs.agrees.Goals as goal

pub beyond-requires : goal.beyond-requires
beyond-requires c = λ j e. omega (arith, c.requires.0.sides c.args.k j c.requires.1 e, c.requires.0.three)
