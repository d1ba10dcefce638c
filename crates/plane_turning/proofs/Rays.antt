-- Rays from one point v, told apart by signs: turns (`turn v a b`, above 0 where the ray to b comes after the ray to a by less than half a turn, anticlockwise)
-- and, for opposite rays, products (`dot v a b`). Each law is an identity of turns and products, and a check of all signs. Assumes nothing.
use mathlib.Core.Path.{◌≡◌, refl, sym, ◌∙◌, ap, subst}
use mathlib.Core.Logic.{◌⊎◌, inl, inr}
use mathlib.Core.Bool.{Bool, true, false, not, cond, ◌&&◌, ◌||◌, beq}
use Prim.Native.Nat.{zero, suc, zero-le}
use native.Mathlib.Omega.{arith}
use lib.IntN.{ℤ, pos, negsuc, neg_ℤ, ◌-ℤ◌, ◌*ℤ◌}
use lib.Signed.{◌<ℤ◌, le_z}
use lib.Dec.{T, le→leb, leb→le}
use Rattle.whole.proofs.Int.{ints, squares}
use Rattle.whole.specs.Polynomials.{con, ◌:+◌, ◌:-◌, ◌:*◌, :-◌, ◌:=◌}
use Rattle.whole.proofs.Ring.{solve}
use Rattle.plane.specs.Points.{Point, turn}
use Rattle.plane.proofs.Points.{turnₑ}
use Rattle.whole_signs.proofs.Signs.{Sign, minus, null, plus, sign, is_plus, is_minus, is_null, opposite, ◌⊗◌, has_only, sign_neg, sign-*, lt_z-plus, lt_z-minus, by_T, by_no_T}
use Rattle.whole_signs.proofs.Each.{each, Claim, Holds, is, ◌⊃◌}
use Rattle.plane_winding.proofs.Winding.{dot, dotₑ}
use Rattle.whole_signs.proofs.Cancelling.{could_cancel, cancels}
use Rattle.plane_winding.proofs.Belongs.{turn_turn}
use Rattle.plane_turning.specs.Turning.{sharper}

-- The ray from v to x lies in the wedge from the ray to a, included, anticlockwise to the ray to b, not included.
abbrev pub wedge : (v a b x : Point) → Bool
wedge v a b x = not (is_minus (sign (turn v a x))) && is_plus (sign (turn v x b))

-- ---- turns
pub turn_back : (v a b : Point) → turn v b a ≡ neg_ℤ (turn v a b)
unfolding turn
turn_back v a b = solve 6 (λ vx vy ax ay bx by. turnₑ vx vy bx by ax ay := :- turnₑ vx vy ax ay bx by) tt v.x v.y a.x a.y b.x b.y

pub sign_back : (v a b : Point) → sign (turn v b a) ≡ opposite (sign (turn v a b))
sign_back v a b = ap sign (turn_back v a b) ∙ sign_neg (turn v a b)

pub turn_self : (v a : Point) → turn v a a ≡ pos 0
unfolding turn
turn_self v a = solve 4 (λ vx vy ax ay. turnₑ vx vy ax ay ax ay := con (pos 0)) tt v.x v.y a.x a.y

pub turn_from : (v a : Point) → turn v v a ≡ pos 0
unfolding turn
turn_from v a = solve 4 (λ vx vy ax ay. turnₑ vx vy vx vy ax ay := con (pos 0)) tt v.x v.y a.x a.y

-- ---- the test `sharper` by signs of rays from v
abbrev pub sooner : (aw ax wx : Sign) → Bool
sooner aw ax wx = cond (is_plus aw) (not (is_plus ax) || is_plus wx) (is_minus ax && (not (is_minus aw) || is_plus wx))

from_zero : (z : ℤ) → le_z (pos 0) z ≡ not (is_minus (sign z))
from_zero (pos zero) = refl
from_zero (pos (suc n)) = by_T _ (le→leb 0 (suc n) zero-le)
from_zero (negsuc n) = refl

to_zero : (z : ℤ) → le_z z (pos 0) ≡ not (is_plus (sign z))
to_zero (pos zero) = refl
to_zero (pos (suc n)) = by_no_T _ (λ t. omega (arith, leb→le (suc n) 0 t))
to_zero (negsuc n) = refl

pub sharper_is : (u v w x : Point) → sharper u v w x ≡ sooner (sign (turn v u w)) (sign (turn v u x)) (sign (turn v w x))
unfolding sharper
sharper_is u v w x =
    rw (lt_z-minus (turn u v w), from_zero (turn u v x), lt_z-plus (turn v w x), lt_z-plus (turn u v x), to_zero (turn u v w), ahead w, ahead x)
    (flipped (sign (turn v u w)) (sign (turn v u x)) (sign (turn v w x)))
  where
    ahead : (w : Point) → sign (turn u v w) ≡ opposite (sign (turn v u w))
    ahead w = ap sign (sym (turn_turn u v w)) ∙ sign_back v u w

    flipped : (aw ax wx : Sign)
        → cond (is_minus (opposite aw)) (not (is_minus (opposite ax)) || is_plus wx) (is_plus (opposite ax) && (not (is_plus (opposite aw)) || is_plus wx)) ≡ sooner aw ax wx
    flipped minus minus wx = refl
    flipped minus null wx = refl
    flipped minus plus wx = refl
    flipped null minus wx = refl
    flipped null null wx = refl
    flipped null plus wx = refl
    flipped plus minus wx = refl
    flipped plus null wx = refl
    flipped plus plus wx = refl

-- ---- the relation of four rays
pub plücker : (v a w x y : Point) → T (could_cancel (opposite (sign (turn v a x) ⊗ sign (turn v w y))) (sign (turn v a w) ⊗ sign (turn v x y)) (sign (turn v a y) ⊗ sign (turn v w x)))
unfolding turn
plücker v a w x y =
    rw (← sign-* (turn v a x) (turn v w y), ← sign-* (turn v a w) (turn v x y), ← sign-* (turn v a y) (turn v w x), ← sign_neg (turn v a x *ℤ turn v w y))
    (cancels (neg_ℤ (turn v a x *ℤ turn v w y)) (turn v a w *ℤ turn v x y) (turn v a y *ℤ turn v w x)
    (solve 10 (λ vx vy ax ay wx wy xx xy yx yy. :- (turnₑ vx vy ax ay xx xy :* turnₑ vx vy wx wy yx yy) :+ turnₑ vx vy ax ay wx wy :* turnₑ vx vy xx xy yx yy
    :+ turnₑ vx vy ax ay yx yy :* turnₑ vx vy wx wy xx xy := con (pos 0)) tt
    v.x v.y a.x a.y w.x w.y x.x x.y y.x y.y))

-- ---- the test is an order
abbrev Four : (aw ax ay wx xy wy : Sign) → Bool
Four aw ax ay wx xy wy = could_cancel (opposite (ax ⊗ wy)) (aw ⊗ xy) (ay ⊗ wx)

trans : (aw ax ay wx xy wy : Sign) → T (Four aw ax ay wx xy wy) → T (sooner aw ax wx) → T (sooner ax ay xy) → T (sooner aw ay wy)
trans = each 6 (λ aw ax ay wx xy wy. Four aw ax ay wx xy wy ⊃ sooner aw ax wx ⊃ sooner ax ay xy ⊃ is (sooner aw ay wy)) tt

through : (aw ax ay wx xy wy : Sign) → T (Four aw ax ay wx xy wy) → T (not (sooner aw ax wx)) → T (sooner aw ay wy) → T (sooner ax ay xy)
through = each 6 (λ aw ax ay wx xy wy. Four aw ax ay wx xy wy ⊃ not (sooner aw ax wx) ⊃ sooner aw ay wy ⊃ is (sooner ax ay xy)) tt

module _ (a v w x y : Point) where
  pub sharper_trans : T (sharper a v w x) → T (sharper a v x y) → T (sharper a v w y)
  sharper_trans s t = subst T (sym (sharper_is a v w y)) (trans (sign (turn v a w)) (sign (turn v a x)) (sign (turn v a y)) (sign (turn v w x)) (sign (turn v x y)) (sign (turn v w y))
      (plücker v a w x y) (subst T (sharper_is a v w x) s) (subst T (sharper_is a v x y) t))

  -- What w is not sharper than is sharper than all that w is sharper than.
  pub sharper_through : T (not (sharper a v w x)) → T (sharper a v w y) → T (sharper a v x y)
  sharper_through s t = subst T (sym (sharper_is a v x y)) (through (sign (turn v a w)) (sign (turn v a x)) (sign (turn v a y)) (sign (turn v w x)) (sign (turn v x y)) (sign (turn v w y))
      (plücker v a w x y) (subst (λ b. T (not b)) (sharper_is a v w x) s) (subst T (sharper_is a v w y) t))

-- ---- parallels: a product of two rays tells whether they are the same or opposite
pub long : (v a b : Point) → pos 0 <ℤ turn v a b → (pos 0 <ℤ dot v a a) × (pos 0 <ℤ dot v b b)
unfolding turn
long v a b h = (
  squares (a.x -ℤ v.x) (a.y -ℤ v.y) (λ p q. omega (arith, ints, subst (λ z. pos 0 <ℤ z) (flat p q (b.x -ℤ v.x) (b.y -ℤ v.y)) h)),
  squares (b.x -ℤ v.x) (b.y -ℤ v.y) (λ p q. omega (arith, ints, subst (λ z. pos 0 <ℤ z) (flat' p q (a.x -ℤ v.x) (a.y -ℤ v.y)) h)),
)
  where
    flat : {m n : ℤ} → m ≡ pos 0 → n ≡ pos 0 → (p q : ℤ) → m *ℤ q -ℤ p *ℤ n ≡ pos 0
    flat e f p q = rw (e, f) (solve 2 (λ p q. con (pos 0) :* q :- p :* con (pos 0) := con (pos 0)) tt p q)

    flat' : {m n : ℤ} → m ≡ pos 0 → n ≡ pos 0 → (p q : ℤ) → p *ℤ n -ℤ m *ℤ q ≡ pos 0
    flat' e f p q = rw (e, f) (solve 2 (λ p q. p :* con (pos 0) :- con (pos 0) :* q := con (pos 0)) tt p q)

⊗-plus : (s : Sign) → s ⊗ plus ≡ s
⊗-plus minus = refl
⊗-plus null = refl
⊗-plus plus = refl

module _ (v a : Point) (some : pos 0 <ℤ dot v a a) where
  -- b and x seen from a
  pub parallel : (b x : Point) → T (could_cancel (sign (turn v b x)) (opposite (sign (dot v a b) ⊗ sign (turn v a x))) (sign (dot v a x) ⊗ sign (turn v a b)))
  unfolding turn
  parallel b x =
      rw (← ⊗-plus (sign (turn v b x)), ← has_only plus (dot v a a) some, ← sign-* (turn v b x) (dot v a a), ← sign-* (dot v a b) (turn v a x), ← sign-* (dot v a x) (turn v a b), ← sign_neg (dot v a b *ℤ turn v a x))
      (cancels (turn v b x *ℤ dot v a a) (neg_ℤ (dot v a b *ℤ turn v a x)) (dot v a x *ℤ turn v a b)
      (solve 8 (λ vx vy ax ay bx by xx xy. turnₑ vx vy bx by xx xy :* dotₑ vx vy ax ay ax ay :+ :- (dotₑ vx vy ax ay bx by :* turnₑ vx vy ax ay xx xy)
      :+ dotₑ vx vy ax ay xx xy :* turnₑ vx vy ax ay bx by := con (pos 0)) tt
      v.x v.y a.x a.y b.x b.y x.x x.y))

-- ---- the arc from the ray to a, not included, anticlockwise to the ray to b, included; a and b on different rays
abbrev pub within : (ab ax bx dax : Sign) → Bool
within plus ax bx dax = is_plus ax && not (is_plus bx)
within minus ax bx dax = not (is_plus bx && not (is_plus ax))
within null ax bx dax = is_plus ax || is_null ax && is_minus dax

abbrev pub arc : (v a b x : Point) → Bool
arc v a b x = within (sign (turn v a b)) (sign (turn v a x)) (sign (turn v b x)) (sign (dot v a x))

abbrev pub other_ray : (v a b : Point) → Bool
other_ray v a b = not (is_null (sign (turn v a b))) || is_minus (sign (dot v a b))

-- The signs of a wedge from w to x, seen from a and b, that holds neither.
abbrev seeing : (ab dab aw ax daw dax bw bx : Sign) → Claim → Claim
seeing ab dab aw ax daw dax bw bx r =
    (not (is_null ab) || is_minus dab)
    ⊃ could_cancel (opposite (aw ⊗ bx)) (ab ⊗ plus) (ax ⊗ bw)
    ⊃ could_cancel plus (opposite (daw ⊗ ax)) (dax ⊗ aw)
    ⊃ could_cancel bw (opposite (dab ⊗ aw)) (daw ⊗ ab)
    ⊃ could_cancel bx (opposite (dab ⊗ ax)) (dax ⊗ ab)
    ⊃ not (not (is_minus (opposite aw)) && is_plus ax)
    ⊃ not (not (is_minus (opposite bw)) && is_plus bx)
    ⊃ r

both_or_none : (ab dab aw ax daw dax bw bx : Sign) → Holds (seeing ab dab aw ax daw dax bw bx (is (beq (within ab aw bw daw) (within ab ax bx dax))))
both_or_none = each 8 (λ ab dab aw ax daw dax bw bx. seeing ab dab aw ax daw dax bw bx (is (beq (within ab aw bw daw) (within ab ax bx dax)))) tt

sooner_within : (ab dab aw ax daw dax bw bx : Sign) → Holds (seeing ab dab aw ax daw dax bw bx (within ab aw bw daw ⊃ is (sooner aw ab (opposite bw))))
sooner_within = each 8 (λ ab dab aw ax daw dax bw bx. seeing ab dab aw ax daw dax bw bx (within ab aw bw daw ⊃ is (sooner aw ab (opposite bw)))) tt

never_both : (ab dab ac dac bc : Sign) → T (not (is_null ab) || is_minus dab) → T (could_cancel bc (opposite (dab ⊗ ac)) (dac ⊗ ab))
    → T (sooner ac ab (opposite bc)) → T (sooner bc (opposite ab) (opposite ac)) → ⊥
never_both = each 5 (λ ab dab ac dac bc. (not (is_null ab) || is_minus dab) ⊃ could_cancel bc (opposite (dab ⊗ ac)) (dac ⊗ ab)
    ⊃ sooner ac ab (opposite bc) ⊃ sooner bc (opposite ab) (opposite ac) ⊃ is false) tt

end_within : (ab dab : Sign) → T (not (is_null ab) || is_minus dab) → T (within ab ab null dab)
end_within = each 2 (λ ab dab. (not (is_null ab) || is_minus dab) ⊃ is (within ab ab null dab)) tt

beq_eq : (b c : Bool) → T (beq b c) → b ≡ c
beq_eq true true t = refl
beq_eq true false t = absurd t
beq_eq false true t = absurd t
beq_eq false false t = refl

module _ (v a b : Point) (some : pos 0 <ℤ dot v a a) (apart : T (other_ray v a b)) where
  pub arc_end : T (arc v a b b)
  arc_end = rw (turn_self v b) (end_within (sign (turn v a b)) (sign (dot v a b)) apart)

  -- No ray lies between a and b both ways round.
  pub one_way : (c : Point) → T (sharper a v c b) → T (sharper b v c a) → ⊥
  one_way c s t = never_both (sign (turn v a b)) (sign (dot v a b)) (sign (turn v a c)) (sign (dot v a c)) (sign (turn v b c)) apart (parallel v a some b c)
      (rw (sign_back v b c) at (subst T (sharper_is a v c b) s)) (rw (sign_back v a b, sign_back v a c) at (subst T (sharper_is b v c a) t))

  module _ (w x : Point) (area : pos 0 <ℤ turn v w x) (no-a : T (not (wedge v w x a))) (no-b : T (not (wedge v w x b))) where
    four : T (could_cancel (opposite (sign (turn v a w) ⊗ sign (turn v b x))) (sign (turn v a b) ⊗ plus) (sign (turn v a x) ⊗ sign (turn v b w)))
    four = rw (← has_only plus (turn v w x) area) (plücker v a b w x)

    forth : T (could_cancel plus (opposite (sign (dot v a w) ⊗ sign (turn v a x))) (sign (dot v a x) ⊗ sign (turn v a w)))
    forth = subst (λ s. T (could_cancel s (opposite (sign (dot v a w) ⊗ sign (turn v a x))) (sign (dot v a x) ⊗ sign (turn v a w)))) (has_only plus (turn v w x) area) (parallel v a some w x)

    not_a : T (not (not (is_minus (opposite (sign (turn v a w)))) && is_plus (sign (turn v a x))))
    not_a = rw (← sign_back v a w) no-a

    not_b : T (not (not (is_minus (opposite (sign (turn v b w)))) && is_plus (sign (turn v b x))))
    not_b = rw (← sign_back v b w) no-b

    -- A wedge that holds neither a nor b lies in the arc with both its rays or with none.
    pub arc_both : arc v a b w ≡ arc v a b x
    arc_both = beq_eq (arc v a b w) (arc v a b x)
        (both_or_none (sign (turn v a b)) (sign (dot v a b)) (sign (turn v a w)) (sign (turn v a x)) (sign (dot v a w)) (sign (dot v a x)) (sign (turn v b w)) (sign (turn v b x))
        apart four forth (parallel v a some b w) (parallel v a some b x) not_a not_b)

    -- If it does, the turn from a to its first ray is sharper than the turn to b.
    pub arc_sharper : T (arc v a b w) → T (sharper a v w b)
    arc_sharper t = subst T (sym (sharper_is a v w b)) (rw (sign_back v b w)
        (sooner_within (sign (turn v a b)) (sign (dot v a b)) (sign (turn v a w)) (sign (turn v a x)) (sign (dot v a w)) (sign (dot v a x)) (sign (turn v b w)) (sign (turn v b x))
        apart four forth (parallel v a some b w) (parallel v a some b x) not_a not_b t))

-- ---- two wedges that end on one ray hold one ray both
beside : (ab dab aw ax daw dax bw bx wx : Sign) → T (is_null ab && not (is_minus dab)) → T (is_minus aw) → T (is_minus bx)
    → T (could_cancel bw (opposite (dab ⊗ aw)) (daw ⊗ ab)) → T (could_cancel bx (opposite (dab ⊗ ax)) (dax ⊗ ab))
    → T (not (is_minus wx) && is_plus (opposite ax) || not (is_minus (opposite wx)) && is_plus (opposite bw))
beside = each 9 (λ ab dab aw ax daw dax bw bx wx. (is_null ab && not (is_minus dab)) ⊃ is_minus aw ⊃ is_minus bx
    ⊃ could_cancel bw (opposite (dab ⊗ aw)) (daw ⊗ ab) ⊃ could_cancel bx (opposite (dab ⊗ ax)) (dax ⊗ ab)
    ⊃ is (not (is_minus wx) && is_plus (opposite ax) || not (is_minus (opposite wx)) && is_plus (opposite bw))) tt

or_either : (b c : Bool) → T (b || c) → T b ⊎ T c
or_either true c t = inl tt
or_either false c t = inr t

-- The first ray of a wedge is in it.
pub wedge_first : (v w x : Point) → pos 0 <ℤ turn v w x → T (wedge v w x w)
wedge_first v w x h = rw (turn_self v w, has_only plus (turn v w x) h) tt

pub overlap : (v a b w x : Point) → pos 0 <ℤ turn v w a → pos 0 <ℤ turn v x b → T (not (other_ray v a b)) → (T (wedge v w a x) × T (wedge v x b x)) ⊎ (T (wedge v w a w) × T (wedge v x b w))
overlap v a b w x h k t = go (or_either (not (is_minus (sign (turn v w x))) && is_plus (opposite (sign (turn v a x)))) (not (is_minus (opposite (sign (turn v w x)))) && is_plus (opposite (sign (turn v b w)))) (beside (sign (turn v a b)) (sign (dot v a b)) (sign (turn v a w)) (sign (turn v a x)) (sign (dot v a w)) (sign (dot v a x))
    (sign (turn v b w)) (sign (turn v b x)) (sign (turn v w x)) (same_ray (sign (turn v a b)) (sign (dot v a b)) t)
    (rw (sign_back v w a, has_only plus (turn v w a) h) tt) (rw (sign_back v x b, has_only plus (turn v x b) k) tt) (parallel v a some b w) (parallel v a some b x)))
  where
    some : pos 0 <ℤ dot v a a
    some = (long v w a h).1

    same_ray : (ab dab : Sign) → T (not (not (is_null ab) || is_minus dab)) → T (is_null ab && not (is_minus dab))
    same_ray = each 2 (λ ab dab. not (not (is_null ab) || is_minus dab) ⊃ is (is_null ab && not (is_minus dab))) tt

    go : T (not (is_minus (sign (turn v w x))) && is_plus (opposite (sign (turn v a x)))) ⊎ T (not (is_minus (opposite (sign (turn v w x)))) && is_plus (opposite (sign (turn v b w))))
        → (T (wedge v w a x) × T (wedge v x b x)) ⊎ (T (wedge v w a w) × T (wedge v x b w))
    go (inl t) = inl (rw (sign_back v a x) t, wedge_first v x b k)
    go (inr t) = inr (wedge_first v w a h, rw (sign_back v w x, sign_back v b w) t)

-- ---- two wedges that begin with level turns, seen from a ray that they don't hold, begin on one ray
level_signs : (ac ad cd ab ae ce dac dad dab dae : Sign) → T (not (sooner ac ad cd)) → T (not (sooner ad ac (opposite cd)))
    → T (not (not (is_minus (opposite ac)) && is_plus ab)) → T (not (not (is_minus (opposite ad)) && is_plus ae))
    → T (could_cancel (opposite (ad ⊗ ce)) (ac ⊗ plus) (ae ⊗ cd))
    → T (could_cancel plus (opposite (dac ⊗ ab)) (dab ⊗ ac)) → T (could_cancel plus (opposite (dad ⊗ ae)) (dae ⊗ ad))
    → T (could_cancel ce (opposite (dac ⊗ ae)) (dae ⊗ ac)) → T (could_cancel cd (opposite (dac ⊗ ad)) (dad ⊗ ac))
    → T (not (is_minus (opposite cd)) && is_plus ce)
level_signs = each 10 (λ ac ad cd ab ae ce dac dad dab dae. not (sooner ac ad cd) ⊃ not (sooner ad ac (opposite cd))
    ⊃ not (not (is_minus (opposite ac)) && is_plus ab) ⊃ not (not (is_minus (opposite ad)) && is_plus ae)
    ⊃ could_cancel (opposite (ad ⊗ ce)) (ac ⊗ plus) (ae ⊗ cd)
    ⊃ could_cancel plus (opposite (dac ⊗ ab)) (dab ⊗ ac) ⊃ could_cancel plus (opposite (dad ⊗ ae)) (dae ⊗ ad)
    ⊃ could_cancel ce (opposite (dac ⊗ ae)) (dae ⊗ ac) ⊃ could_cancel cd (opposite (dac ⊗ ad)) (dad ⊗ ac)
    ⊃ is (not (is_minus (opposite cd)) && is_plus ce)) tt

module _ (v a c d b e : Point) (some : pos 0 <ℤ dot v a a) (first : pos 0 <ℤ turn v c b) (second : pos 0 <ℤ turn v d e) where
  -- The wedges are from c to b and from d to e.
  pub level_turns : T (not (wedge v c b a)) → T (not (wedge v d e a)) → T (not (sharper a v c d)) → T (not (sharper a v d c)) → T (wedge v d e c)
  level_turns i j k l = rw (sign_back v c d) (level_signs (sign (turn v a c)) (sign (turn v a d)) (sign (turn v c d)) (sign (turn v a b)) (sign (turn v a e)) (sign (turn v c e))
      (sign (dot v a c)) (sign (dot v a d)) (sign (dot v a b)) (sign (dot v a e))
      (subst (λ t. T (not t)) (sharper_is a v c d) k) (rw (sign_back v c d) at (subst (λ t. T (not t)) (sharper_is a v d c) l))
      (rw (← sign_back v a c) i) (rw (← sign_back v a d) j)
      (subst (λ s. T (could_cancel (opposite (sign (turn v a d) ⊗ sign (turn v c e))) (sign (turn v a c) ⊗ s) (sign (turn v a e) ⊗ sign (turn v c d)))) (has_only plus (turn v d e) second) (plücker v a c d e))
      (subst (λ s. T (could_cancel s (opposite (sign (dot v a c) ⊗ sign (turn v a b))) (sign (dot v a b) ⊗ sign (turn v a c)))) (has_only plus (turn v c b) first) (parallel v a some c b))
      (subst (λ s. T (could_cancel s (opposite (sign (dot v a d) ⊗ sign (turn v a e))) (sign (dot v a e) ⊗ sign (turn v a d)))) (has_only plus (turn v d e) second) (parallel v a some d e))
      (parallel v a some c e) (parallel v a some c d))
