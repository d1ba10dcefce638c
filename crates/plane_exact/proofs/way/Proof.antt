-- `plane_exact::way` meets its contract: held numbers are small, so that their difference is exact, and what was added to both cancels.
-- Assumes nothing.
use mathlib.Core.Path.{◌≡◌}
use Prim.Native.Nat.{ℕ}
use native.Mathlib.Omega.{arith}
use lib.Dec.{lit<}
use lib.IntN.{pos, ◌-ℤ◌}
use mir.Syntax.{w64}
use mir.ValLaws.{to_z_pos}
use borrow.Author.Rules.{rules}
use Rattle.whole.proofs.Bound.{within_gap, within_fits, exact}
use Rattle.whole.specs.Polynomials.{◌:-◌, ◌:=◌}
use Rattle.whole.proofs.Ring.{solve}
use Rattle.plane.specs.Corners.{millimetres}
use Rattle.plane_exact.proofs.way.Statement.{statement}
use Rattle.plane_exact.proofs.way.Tie as tie

shift : (u v : ℕ) → pos v -ℤ pos u ≡ millimetres v -ℤ millimetres u
shift u v = solve 3 (λ u v k. v :- u := (v :- k) :- (u :- k)) tt (pos u) (pos v) (pos 10_000_000)

cast_result : tie.Need-overflow_cast-result
cast_result c = search rules

cast_result_2 : tie.Need-overflow_cast-result-2
cast_result_2 c = search rules

sub_result : tie.Need-overflow_sub-result
sub_result c =
    let a = c.args in
    rw (to_z_pos w64 a.v (omega arith), to_z_pos w64 a.u (omega arith)) (within_fits 20_000_000 _ (lit< tt) (within_gap 20_000_000 a.u a.v c.requires.0 c.requires.1))

returns : tie.Need-returns
returns c =
    let a = c.args in
    let near = within_gap 20_000_000 a.u a.v c.requires.0 c.requires.1 in
    rw (to_z_pos w64 a.v (omega arith), to_z_pos w64 a.u (omega arith), exact 20_000_000 (pos a.v -ℤ pos a.u) (lit< tt) near) (shift a.u a.v, near)

pub way_spec : {M : Type 1} → statement M
way_spec = tie.close (tie.spec cast_result cast_result_2 sub_result returns)
