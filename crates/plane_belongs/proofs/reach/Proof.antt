-- `plane_belongs::reach` meets its contract: the way is at most 2^31 and 10,000,000, so that it is exact, and what was added to the held number cancels.
-- Assumes nothing.
use mathlib.Core.Path.{◌≡◌, refl, ◌∙◌, ap}
use Prim.Native.Nat.{ℕ}
use native.Mathlib.Omega.{arith}
use lib.Dec.{lit<}
use lib.IntN.{ℤ, pos, ◌+ℤ◌, ◌-ℤ◌}
use mir.Syntax.{w32, w64}
use mir.Val.{to_z, of_z}
use mir.Facts.{to_z-of_z}
use mir.ValLaws.{to_z_pos}
use borrow.Author.Rules.{rules}
use Rattle.whole.specs.Numbers.{Within}
use Rattle.whole.proofs.Bound.{within_add, within_sub, within_fits, exact}
use Rattle.whole.specs.Polynomials.{◌:+◌, ◌:-◌, ◌:=◌}
use Rattle.whole.proofs.Ring.{solve}
use Rattle.plane.specs.Corners.{millimetres}
use Rattle.plane_belongs.proofs.Kept.{near, held_near}
use Rattle.plane_belongs.proofs.reach.Statement.{statement}
use Rattle.plane_belongs.proofs.reach.Tie as tie

shift : (z : ℤ) (u : ℕ) → z +ℤ pos 10_000_000 -ℤ pos u ≡ z -ℤ millimetres u
shift z u = solve 3 (λ z u k. z :+ k :- u := z :- (u :- k)) tt z (pos u) (pos 10_000_000)

-- ---- what stands there: the point's number read back from its 32 bits, and from 64; the same with what is added; the way
module _ (c : tie.Start) where
  abbrev z : ℤ
  z = c.args.z

  abbrev u : ℕ
  u = c.args.u

  alone : to_z w32 (of_z w32 z) ≡ z
  alone = to_z-of_z {w = w32} c.ranges.z

  small : Within 2_147_483_648 z
  small = near z c.ranges.z

  same : to_z w64 (of_z w64 (to_z w32 (of_z w32 z))) ≡ z
  same = ap (λ w. to_z w64 (of_z w64 w)) alone ∙ exact 2_147_483_648 z (lit< tt) small

  added : Within 2_157_483_648 (z +ℤ pos 10_000_000)
  added = within_add 2_147_483_648 10_000_000 z (pos 10_000_000) small (record { size = omega arith })

  sum : to_z w64 (of_z w64 (to_z w64 (of_z w64 (to_z w32 (of_z w32 z))) +ℤ pos 10_000_000)) ≡ z +ℤ pos 10_000_000
  sum = ap (λ w. to_z w64 (of_z w64 (w +ℤ pos 10_000_000))) same ∙ exact 2_157_483_648 (z +ℤ pos 10_000_000) (lit< tt) added

  way : Within 2_157_483_648 (z -ℤ millimetres u)
  way = within_sub 2_147_483_648 10_000_000 z (millimetres u) small (held_near u c.requires)

  all : to_z w64 (of_z w64 (to_z w64 (of_z w64 (to_z w32 (of_z w32 z))) +ℤ pos 10_000_000)) -ℤ to_z w64 u ≡ z -ℤ millimetres u
  all = rw (sum, to_z_pos w64 u (omega (arith, c.requires))) (shift z u)

cast_result : tie.Need-overflow_cast-result
cast_result c = rw (alone c) (within_fits 2_147_483_648 _ (lit< tt) (small c))

add_result : tie.Need-overflow_add-result
add_result c = rw (same c) (within_fits 2_157_483_648 _ (lit< tt) (added c))

sub_result : tie.Need-overflow_sub-result
sub_result c = rw (all c) (within_fits 2_157_483_648 _ (lit< tt) (way c))

returns : tie.Need-returns
returns c = rw (all c, exact 2_157_483_648 (z c -ℤ millimetres (u c)) (lit< tt) (way c)) (refl, way c)

pub reach_spec : {M : Type 1} → statement M
reach_spec = tie.close (tie.spec cast_result (λ c. search rules) add_result (λ c. search rules) sub_result returns)
