-- The numbers are 8 bytes each.
use Rattle.std.proofs.Common.{refl, arith}
use mathlib.Core.List.{flat_map}
use Rattle.lent_little.specs.Bytes.{set_bytes}
use Rattle.lent_little.proofs.Bytes.{set_length, all_length}
use Rattle.lent.proofs.Answered.{answered_short}
use Rattle.lent_sets.proofs.each.Goals as goal

pub returns-then-out-n : goal.returns-then-out-n
returns-then-out-n c = answered_short _ _ _ (flat_map set_bytes c.args.numbers.now) refl (omega (arith, all_length 8 set_bytes set_length c.args.numbers.now))
