-- `sheet_sums::product` meets its contract: held numbers are small, so that their difference and the product are exact. Assumes nothing.
use mathlib.Core.Path.{refl}
use native.Mathlib.Omega.{arith}
use lib.Dec.{lit<}
use lib.IntN.{pos, ◌-ℤ◌, ◌*ℤ◌}
use mir.Syntax.{w64}
use mir.ValLaws.{to_z_pos}
use borrow.Author.Rules.{rules}
use Rattle.whole.specs.Numbers.{Within}
use Rattle.whole.proofs.Bound.{within_gap, within_mul, within_fits, exact}
use Rattle.sheet_sums.proofs.product.Statement.{statement}
use Rattle.sheet_sums.proofs.product.Tie as tie

module _ (c : tie.Start) where
  gap : Within 20_000_000 (pos c.args.after -ℤ pos c.args.before)
  gap = within_gap 20_000_000 c.args.before c.args.after c.requires.1 c.requires.2

  all : Within 400_000_000_000_000 (pos c.args.x *ℤ (pos c.args.after -ℤ pos c.args.before))
  all = within_mul 20_000_000 20_000_000 (pos c.args.x) (pos c.args.after -ℤ pos c.args.before) (record { size = c.requires.0 }) gap

cast_result : tie.Need-overflow_cast-result
cast_result c = search rules

cast_result_2 : tie.Need-overflow_cast-result-2
cast_result_2 c = search rules

cast_result_3 : tie.Need-overflow_cast-result-3
cast_result_3 c = search rules

sub_result : tie.Need-overflow_sub-result
sub_result c =
    let a = c.args in
    rw (to_z_pos w64 a.after (omega arith), to_z_pos w64 a.before (omega arith)) (within_fits 20_000_000 _ (lit< tt) (gap c))

mul_result : tie.Need-overflow_mul-result
mul_result c =
    let a = c.args in
    rw (to_z_pos w64 a.x (omega arith), to_z_pos w64 a.after (omega arith), to_z_pos w64 a.before (omega arith), exact 20_000_000 (pos a.after -ℤ pos a.before) (lit< tt) (gap c))
    (within_fits 400_000_000_000_000 _ (lit< tt) (all c))

returns : tie.Need-returns
returns c =
    let a = c.args in
    rw (
      to_z_pos w64 a.x (omega arith),
      to_z_pos w64 a.after (omega arith),
      to_z_pos w64 a.before (omega arith),
      exact 20_000_000 (pos a.after -ℤ pos a.before) (lit< tt) (gap c),
      exact 400_000_000_000_000 (pos a.x *ℤ (pos a.after -ℤ pos a.before)) (lit< tt) (all c),
    ) (refl, all c)

pub product_spec : {M : Type 1} → statement M
product_spec = tie.close (tie.spec cast_result cast_result_2 cast_result_3 sub_result mul_result returns)
