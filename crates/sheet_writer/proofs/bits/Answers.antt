-- The number is its four bytes, each by its weight.
use Rattle.std.proofs.Common.{◌*◌, arith}
use Rattle.sheet_writer.proofs.Numbers.{four_bytes}
use Rattle.sheet_writer.proofs.bits.Goals as goal

pub returns : goal.returns
returns c = let e = four_bytes c.args.numbers.now (4 * c.args.i) c.requires in omega (arith, c.from_le_bytes.ensures)
