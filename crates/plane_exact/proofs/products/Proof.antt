-- `plane_exact::products` meets its contract: the products and their sum are far below 2^63, so that each is exact. Assumes nothing.
use mathlib.Core.Path.{◌≡◌}
use lib.Dec.{lit<}
use lib.IntN.{ℤ, ◌+ℤ◌, ◌*ℤ◌}
use mir.Syntax.{w64}
use mir.Val.{to_z, of_z}
use Rattle.whole.specs.Numbers.{Within}
use Rattle.whole.proofs.Bound.{within_add, within_mul, within_fits, exact}
use Rattle.plane_exact.proofs.products.Statement.{statement}
use Rattle.plane_exact.proofs.products.Tie as tie

-- A way is read back as it was, and so is a product of two.
small : (z : ℤ) → Within 20_000_000 z → to_z w64 (of_z w64 z) ≡ z
small z h = exact 20_000_000 z (lit< tt) h

product : (z w : ℤ) → Within 20_000_000 z → Within 20_000_000 w → Within 400_000_000_000_000 (z *ℤ w)
product z w h k = within_mul 20_000_000 20_000_000 z w h k

large : (z w : ℤ) → Within 20_000_000 z → Within 20_000_000 w → to_z w64 (of_z w64 (z *ℤ w)) ≡ z *ℤ w
large z w h k = exact 400_000_000_000_000 (z *ℤ w) (lit< tt) (product z w h k)

mul_result : tie.Need-overflow_mul-result
mul_result c = rw (small c.args.a c.requires.0, small c.args.b c.requires.1) (within_fits 400_000_000_000_000 _ (lit< tt) (product _ _ c.requires.0 c.requires.1))

mul_result_2 : tie.Need-overflow_mul-result-2
mul_result_2 c = rw (small c.args.c c.requires.2, small c.args.d c.requires.3) (within_fits 400_000_000_000_000 _ (lit< tt) (product _ _ c.requires.2 c.requires.3))

module _ (c : tie.Start) where
  all : Within 800_000_000_000_000 (c.args.a *ℤ c.args.b +ℤ c.args.c *ℤ c.args.d)
  all = within_add 400_000_000_000_000 400_000_000_000_000 _ _ (product _ _ c.requires.0 c.requires.1) (product _ _ c.requires.2 c.requires.3)

add_result : tie.Need-overflow_add-result
add_result c = simp (small c.args.a c.requires.0, small c.args.b c.requires.1, small c.args.c c.requires.2, small c.args.d c.requires.3, large c.args.a c.args.b c.requires.0 c.requires.1, large c.args.c c.args.d c.requires.2 c.requires.3)
    (within_fits 800_000_000_000_000 _ (lit< tt) (all c))

returns : tie.Need-returns
returns c = simp (small c.args.a c.requires.0, small c.args.b c.requires.1, small c.args.c c.requires.2, small c.args.d c.requires.3, large c.args.a c.args.b c.requires.0 c.requires.1, large c.args.c c.args.d c.requires.2 c.requires.3)
    (exact 800_000_000_000_000 _ (lit< tt) (all c))

pub products_spec : {M : Type 1} → statement M
products_spec = tie.close (tie.spec mul_result mul_result_2 add_result returns)
