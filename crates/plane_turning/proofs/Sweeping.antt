-- Rays from a corner v gone through anticlockwise, from the ray back to a on, wedge by wedge: the turns to the right become less and less sharp, so a ray that is
-- sharper than where a wedge ends, and not sharper than where it begins, is in the wedge. What is outside the frame holds no ray. Each law is a check of all signs.
-- Assumes nothing.
use mathlib.Core.Path.{sym, subst}
use mathlib.Core.Bool.{not, ◌&&◌, ◌||◌}
use lib.IntN.{pos}
use lib.Signed.{◌<ℤ◌}
use lib.Dec.{T}
use Rattle.plane.specs.Points.{Point, turn}
use Rattle.whole_signs.proofs.Signs.{Sign, plus, sign, is_plus, is_minus, is_null, opposite, ◌⊗◌, has_only}
use Rattle.whole_signs.proofs.Each.{each, is, ◌⊃◌}
use Rattle.whole_signs.proofs.Cancelling.{could_cancel}
use Rattle.plane_winding.proofs.Winding.{dot}
use Rattle.plane_turning.specs.Turning.{sharper}
use Rattle.plane_turning.proofs.Rays.{wedge, sign_back, sooner, sharper_is, plücker, parallel, other_ray}

own_signs : (ax dax ab dab : Sign) → T (not (not (is_minus (opposite ax)) && is_plus ab)) → T (could_cancel plus (opposite (dax ⊗ ab)) (dab ⊗ ax)) → T (not (is_null ax) || is_minus dax)
own_signs = each 4 (λ ax dax ab dab. not (not (is_minus (opposite ax)) && is_plus ab) ⊃ could_cancel plus (opposite (dax ⊗ ab)) (dab ⊗ ax) ⊃ is (not (is_null ax) || is_minus dax)) tt

first_signs : (ax xy : Sign) → T (sooner ax plus xy) → T (not (is_minus ax) && is_plus xy)
first_signs = each 2 (λ ax xy. sooner ax plus xy ⊃ is (not (is_minus ax) && is_plus xy)) tt

swept_signs : (aw ax ay wx xy daw dax day : Sign) → T (not (is_null ax) || is_minus dax) → T (not (not (is_minus (opposite aw)) && is_plus ay))
    → T (could_cancel (opposite (ax ⊗ plus)) (aw ⊗ xy) (ay ⊗ wx)) → T (could_cancel wx (opposite (daw ⊗ ax)) (dax ⊗ aw)) → T (could_cancel xy (opposite (dax ⊗ ay)) (day ⊗ ax))
    → T (not (sooner ax aw (opposite wx))) → T (sooner ax ay xy) → T (not (is_minus wx) && is_plus xy)
swept_signs = each 8 (λ aw ax ay wx xy daw dax day. (not (is_null ax) || is_minus dax) ⊃ not (not (is_minus (opposite aw)) && is_plus ay)
    ⊃ could_cancel (opposite (ax ⊗ plus)) (aw ⊗ xy) (ay ⊗ wx) ⊃ could_cancel wx (opposite (daw ⊗ ax)) (dax ⊗ aw) ⊃ could_cancel xy (opposite (dax ⊗ ay)) (day ⊗ ax)
    ⊃ not (sooner ax aw (opposite wx)) ⊃ sooner ax ay xy ⊃ is (not (is_minus wx) && is_plus xy)) tt

side_signs : (az ax zx zb ab : Sign) → T (could_cancel (opposite (ax ⊗ zb)) (az ⊗ plus) (ab ⊗ zx)) → T (not (is_plus zb)) → T (not (is_plus az && is_plus ax && is_null zx))
side_signs = each 5 (λ az ax zx zb ab. could_cancel (opposite (ax ⊗ zb)) (az ⊗ plus) (ab ⊗ zx) ⊃ not (is_plus zb) ⊃ is (not (is_plus az && is_plus ax && is_null zx))) tt

back_signs : (az ax zx : Sign) → T (not (is_plus zx)) → T (not (is_plus az && is_plus ax && is_null zx)) → T (not (sooner ax az (opposite zx))) → T (not (is_plus ax))
back_signs = each 3 (λ az ax zx. not (is_plus zx) ⊃ not (is_plus az && is_plus ax && is_null zx) ⊃ not (sooner ax az (opposite zx)) ⊃ is (not (is_plus ax))) tt

past_signs : (ax ay xy dax day : Sign) → T (not (is_plus ax)) → T (not (is_plus xy)) → T (not (is_null ax) || is_minus dax) → T (could_cancel xy (opposite (dax ⊗ ay)) (day ⊗ ax)) → T (not (sooner ax ay xy))
past_signs = each 5 (λ ax ay xy dax day. not (is_plus ax) ⊃ not (is_plus xy) ⊃ (not (is_null ax) || is_minus dax) ⊃ could_cancel xy (opposite (dax ⊗ ay)) (day ⊗ ax) ⊃ is (not (sooner ax ay xy))) tt

line_signs : (aw ay yw day daw : Sign) → T (is_minus aw) → T (not (is_plus ay)) → T (not (is_minus ay)) → T (not (is_null ay) || is_minus day) → T (could_cancel yw (opposite (day ⊗ aw)) (daw ⊗ ay)) → T (is_plus yw)
line_signs = each 5 (λ aw ay yw day daw. is_minus aw ⊃ not (is_plus ay) ⊃ not (is_minus ay) ⊃ (not (is_null ay) || is_minus day) ⊃ could_cancel yw (opposite (day ⊗ aw)) (daw ⊗ ay) ⊃ is (is_plus yw)) tt

module _ (v a : Point) (some : pos 0 <ℤ dot v a a) where
  -- The first ray of a wedge that doesn't hold a is another ray.
  pub own_ray : (x b : Point) → pos 0 <ℤ turn v x b → T (not (wedge v x b a)) → T (other_ray v a x)
  own_ray x b h n = own_signs (sign (turn v a x)) (sign (dot v a x)) (sign (turn v a b)) (sign (dot v a b)) (rw (← sign_back v a x) n)
      (subst (λ s. T (could_cancel s (opposite (sign (dot v a x) ⊗ sign (turn v a b))) (sign (dot v a b) ⊗ sign (turn v a x)))) (has_only plus (turn v x b) h) (parallel v a some x b))

  -- What is sharper than the end of a wedge that begins with a is in it.
  pub first_swept : (x y : Point) → pos 0 <ℤ turn v a y → T (sharper a v x y) → T (wedge v a y x)
  first_swept x y h s = first_signs (sign (turn v a x)) (sign (turn v x y))
      (subst (λ t. T (sooner (sign (turn v a x)) t (sign (turn v x y)))) (has_only plus (turn v a y) h) (subst T (sharper_is a v x y) s))

  -- What is sharper than the end of a wedge that doesn't hold a, and not sharper than its beginning, is in it.
  pub swept : (w x y : Point) → pos 0 <ℤ turn v w y → T (not (wedge v w y a)) → T (other_ray v a x) → T (not (sharper a v x w)) → T (sharper a v x y) → T (wedge v w y x)
  swept w x y h n o r s = swept_signs (sign (turn v a w)) (sign (turn v a x)) (sign (turn v a y)) (sign (turn v w x)) (sign (turn v x y)) (sign (dot v a w)) (sign (dot v a x)) (sign (dot v a y))
      o (rw (← sign_back v a w) n)
      (subst (λ t. T (could_cancel (opposite (sign (turn v a x) ⊗ t)) (sign (turn v a w) ⊗ sign (turn v x y)) (sign (turn v a y) ⊗ sign (turn v w x)))) (has_only plus (turn v w y) h) (plücker v a w x y))
      (parallel v a some w x) (parallel v a some x y)
      (rw (sign_back v w x) at (subst (λ b. T (not b)) (sharper_is a v x w) r)) (subst T (sharper_is a v x y) s)

  -- Where no corner is to the right of the side that arrives from z: a wedge from x to b that isn't past it has x on another ray, on a's side at least.
  pub same_side : (z x b : Point) → pos 0 <ℤ turn v x b → T (not (is_plus (sign (turn v z b)))) → T (not (is_plus (sign (turn v a z)) && is_plus (sign (turn v a x)) && is_null (sign (turn v z x))))
  same_side z x b h n = side_signs (sign (turn v a z)) (sign (turn v a x)) (sign (turn v z x)) (sign (turn v z b)) (sign (turn v a b))
      (subst (λ t. T (could_cancel (opposite (sign (turn v a x) ⊗ sign (turn v z b))) (sign (turn v a z) ⊗ t) (sign (turn v a b) ⊗ sign (turn v z x)))) (has_only plus (turn v x b) h) (plücker v a z x b)) n

  -- So what is not sharper than z is not to the right of the arriving side.
  pub not_right : (z x : Point) → T (not (is_plus (sign (turn v z x)))) → T (not (is_plus (sign (turn v a z)) && is_plus (sign (turn v a x)) && is_null (sign (turn v z x))))
      → T (not (sharper a v x z)) → T (not (is_plus (sign (turn v a x))))
  not_right z x n m r = back_signs (sign (turn v a z)) (sign (turn v a x)) (sign (turn v z x)) n m (rw (sign_back v z x) at (subst (λ b. T (not b)) (sharper_is a v x z) r))

  -- And none of that is sharper than y where it isn't to the right of the side that leaves to y.
  pub past_frame : (x y : Point) → T (not (is_plus (sign (turn v a x)))) → T (not (is_plus (sign (turn v x y)))) → T (other_ray v a x) → T (not (sharper a v x y))
  past_frame x y n m o = subst (λ b. T (not b)) (sym (sharper_is a v x y))
      (past_signs (sign (turn v a x)) (sign (turn v a y)) (sign (turn v x y)) (sign (dot v a x)) (sign (dot v a y)) n m o (parallel v a some x y))

  -- Where a and y are on one line, on different rays, what has a to its left is to the left of y.
  pub opposite_rays : (y w : Point) → T (not (is_plus (sign (turn v a y)))) → T (not (is_minus (sign (turn v a y)))) → T (other_ray v a y) → pos 0 <ℤ turn v w a → T (is_plus (sign (turn v y w)))
  opposite_rays y w n m o h = line_signs (sign (turn v a w)) (sign (turn v a y)) (sign (turn v y w)) (sign (dot v a y)) (sign (dot v a w))
      (rw (sign_back v w a, has_only plus (turn v w a) h) tt) n m o (parallel v a some y w)
