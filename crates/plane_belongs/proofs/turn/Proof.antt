-- `plane_belongs::turn` meets its contract: ways between corners are at most 20,000,000 and those to the point 2^31 and 10,000,000, so that the products and their
-- difference are far below 2^63 and exact. Assumes nothing.
use mathlib.Core.Path.{◌≡◌, ◌∙◌, ap, ap₂, subst}
use Prim.Native.Nat.{ℕ}
use native.Mathlib.Omega.{arith}
use lib.Dec.{lit<}
use lib.IntN.{pos, ◌-ℤ◌, ◌*ℤ◌}
use mir.Syntax.{w32, w64}
use mir.Val.{to_z, of_z}
use mir.Facts.{to_z-of_z}
use mir.ValLaws.{to_z_pos}
use borrow.Author.Rules.{rules}
use Rattle.whole.specs.Numbers.{Within}
use Rattle.whole.proofs.Bound.{within_gap, within_sub, within_mul, within_fits, exact, returned}
use Rattle.whole.specs.Polynomials.{◌:-◌, ◌:=◌}
use Rattle.whole.proofs.Ring.{solve}
use Rattle.plane.specs.Points.{turn}
use Rattle.plane.specs.Corners.{millimetres}
use Rattle.plane.specs.Keys.{Held}
use Rattle.plane_belongs.proofs.turn.Statement.{statement}
use Rattle.plane_belongs.proofs.turn.Tie as tie

-- ---- the way from one corner to another, in one coordinate
module _ (u v : ℕ) (h : Held u) (k : Held v) where
  shift : pos v -ℤ pos u ≡ millimetres v -ℤ millimetres u
  shift = solve 3 (λ u v k. v :- u := (v :- k) :- (u :- k)) tt (pos u) (pos v) (pos 10_000_000)

  way : to_z w64 v -ℤ to_z w64 u ≡ millimetres v -ℤ millimetres u
  way = rw (to_z_pos w64 v (omega arith), to_z_pos w64 u (omega arith)) shift

  short : Within 20_000_000 (millimetres v -ℤ millimetres u)
  short = subst (Within 20_000_000) shift (within_gap 20_000_000 u v h k)

  way_exact : to_z w64 (of_z w64 (to_z w64 v -ℤ to_z w64 u)) ≡ millimetres v -ℤ millimetres u
  way_exact = ap (λ z. to_z w64 (of_z w64 z)) way ∙ exact 20_000_000 _ (lit< tt) short

-- ---- places: the entry of the function
abbrev start : tie.After-reach → tie.Start
start c = c.before.before.before.before.before

-- ---- what stands there: the two products, and their difference
module _ (c : tie.After-reach) where
  first : Within 43_149_672_960_000_000 ((millimetres (start c).args.v.x -ℤ millimetres (start c).args.u.x) *ℤ c.reach.result)
  first = let s = start c in within_mul 20_000_000 2_157_483_648 _ _ (short s.args.u.x s.args.v.x s.requires.0.x s.requires.1.x) c.reach.ensures.1

module _ (c : tie.After-reach-2) where
  second : Within 43_149_672_960_000_000 (c.reach-2.result *ℤ (millimetres (start c.before).args.v.y -ℤ millimetres (start c.before).args.u.y))
  second = let s = start c.before in within_mul 2_157_483_648 20_000_000 _ _ c.reach-2.ensures.1 (short s.args.u.y s.args.v.y s.requires.0.y s.requires.1.y)

  both : Within 86_299_345_920_000_000 ((millimetres (start c.before).args.v.x -ℤ millimetres (start c.before).args.u.x) *ℤ c.reach.result
      -ℤ c.reach-2.result *ℤ (millimetres (start c.before).args.v.y -ℤ millimetres (start c.before).args.u.y))
  both = within_sub 43_149_672_960_000_000 43_149_672_960_000_000 _ _ (first c.before) second

sub_dx : tie.Need-overflow_sub-dx
sub_dx c = let s = c in rw (way s.args.u.x s.args.v.x s.requires.0.x s.requires.1.x) (within_fits 20_000_000 _ (lit< tt) (short s.args.u.x s.args.v.x s.requires.0.x s.requires.1.x))

sub_dy : tie.Need-overflow_sub-dy
sub_dy c = let s = c in rw (way s.args.u.y s.args.v.y s.requires.0.y s.requires.1.y) (within_fits 20_000_000 _ (lit< tt) (short s.args.u.y s.args.v.y s.requires.0.y s.requires.1.y))

mul_result : tie.Need-overflow_mul-result
mul_result c =
    let s = start c in
    rw (way_exact s.args.u.x s.args.v.x s.requires.0.x s.requires.1.x, returned c.reach.result c.reach.type_inv) (within_fits 43_149_672_960_000_000 _ (lit< tt) (first c))

mul_result_2 : tie.Need-overflow_mul-result-2
mul_result_2 c =
    let s = start c.before in
    rw (returned c.reach-2.result c.reach-2.type_inv, way_exact s.args.u.y s.args.v.y s.requires.0.y s.requires.1.y) (within_fits 43_149_672_960_000_000 _ (lit< tt) (second c))

-- Both products, read back from their bits.
module _ (c : tie.After-reach-2) where
  abbrev s : tie.Start
  s = start c.before

  first_exact : to_z w64 (of_z w64 (to_z w64 (of_z w64 (to_z w64 s.args.v.x -ℤ to_z w64 s.args.u.x)) *ℤ to_z w64 (of_z w64 c.reach.result)))
      ≡ (millimetres s.args.v.x -ℤ millimetres s.args.u.x) *ℤ c.reach.result
  first_exact =
      ap₂ (λ a b. to_z w64 (of_z w64 (a *ℤ b))) (way_exact s.args.u.x s.args.v.x s.requires.0.x s.requires.1.x) (returned c.reach.result c.reach.type_inv)
      ∙ exact 43_149_672_960_000_000 _ (lit< tt) (first c.before)

  second_exact : to_z w64 (of_z w64 (to_z w64 (of_z w64 c.reach-2.result) *ℤ to_z w64 (of_z w64 (to_z w64 s.args.v.y -ℤ to_z w64 s.args.u.y))))
      ≡ c.reach-2.result *ℤ (millimetres s.args.v.y -ℤ millimetres s.args.u.y)
  second_exact =
      ap₂ (λ a b. to_z w64 (of_z w64 (a *ℤ b))) (returned c.reach-2.result c.reach-2.type_inv) (way_exact s.args.u.y s.args.v.y s.requires.0.y s.requires.1.y)
      ∙ exact 43_149_672_960_000_000 _ (lit< tt) (second c)

sub_result : tie.Need-overflow_sub-result
sub_result c = rw (first_exact c, second_exact c) (within_fits 86_299_345_920_000_000 _ (lit< tt) (both c))

returns : tie.Need-returns
unfolding turn
returns c =
    let s = start c.before in
    ap₂ (λ a b. to_z w64 (of_z w64 (a -ℤ b))) (first_exact c) (second_exact c)
    ∙ exact 86_299_345_920_000_000 _ (lit< tt) (both c)
    ∙ ap₂ (λ a b. (millimetres s.args.v.x -ℤ millimetres s.args.u.x) *ℤ a -ℤ b *ℤ (millimetres s.args.v.y -ℤ millimetres s.args.u.y)) (c.reach.ensures.0 ∙ ap (λ z. z -ℤ millimetres s.args.u.y) (to_z-of_z {w = w32} s.ranges.y)) (c.reach-2.ensures.0 ∙ ap (λ z. z -ℤ millimetres s.args.u.x) (to_z-of_z {w = w32} s.ranges.x))

pub turn_spec : {M : Type 1} → statement M
turn_spec =
    tie.close
    (tie.spec
    (λ c. search rules)
    (λ c. search rules)
    sub_dx
    (λ c. search rules)
    (λ c. search rules)
    sub_dy
    (λ c κs. search rules)
    mul_result
    (λ c κs. search rules)
    mul_result_2
    sub_result
    returns)
