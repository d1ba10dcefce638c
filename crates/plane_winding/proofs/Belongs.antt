-- Round a triangle of positive area the sides pass a grid point once if it belongs to the triangle, and else never.
-- The idea: the three turns round the point, each times the height of the corner across, add up to 0, and the turns to the double area; what signs six numbers like
-- that can have is gone through one by one, and where the point is on the line of a side, the heights tell how the side leans. Assumes nothing.
use mathlib.Core.Path.{◌≡◌, refl, sym, ◌∙◌, ap, subst}
use mathlib.Core.Bool.{Bool, true, false, not, ◌&&◌, ◌||◌, beq}
use lib.IntN.{pos, neg_ℤ, ◌+ℤ◌, ◌-ℤ◌, ◌*ℤ◌}
use lib.Signed.{◌<ℤ◌}
use lib.Dec.{T}
use Rattle.whole.specs.Sums.{bit, sum}
use Rattle.whole.specs.Polynomials.{con, ◌:+◌, ◌:-◌, ◌:*◌, :-◌, ◌:=◌}
use Rattle.whole.proofs.Ring.{solve}
use Rattle.plane.specs.Points.{Point, Triangle, ◌⟶◌, turn, double, sides}
use Rattle.plane.proofs.Points.{turnₑ}
use Rattle.plane_winding.specs.Winding.{leans, keeps, belongs, wind}
use Rattle.whole_signs.proofs.Signs.{Sign, null, plus, sign, is_plus, is_minus, is_null, opposite, ◌⊗◌, has_only, sign_neg, sign-*, lt_z-sign, lt_z-plus, eq_z-sign}
use Rattle.whole_signs.proofs.Each.{each, Claim, Holds, is, ◌==◌, ◌⊃◌}
use Rattle.whole_signs.proofs.Cancelling.{some, could_cancel, is_null_lem, zero_sign, some_plus, cancels}
use Rattle.plane_winding.proofs.Winding.{level, passes, wind_is, clear}

-- where z is on the line of u v, and not outside the other two sides, the side leans as the heights over z say
abbrev falls : Sign → Sign → Sign → Bool
falls u v o = not (is_minus u) && not (is_plus v) && not (is_null u && is_null v) || is_null u && is_null v && is_plus o

abbrev agrees : Sign → Sign → Sign → Bool → Bool → Bool
agrees k l m x y = not (is_null k) || is_minus l || is_minus m || beq x y

side_rule : (k l m u v o d h : Sign) → Claim
side_rule k l m u v o d h =
    could_cancel (k ⊗ o) (l ⊗ u) (m ⊗ v) ⊃ some is_plus k l m ⊃ could_cancel u (opposite v) (opposite d) ⊃ (not (is_null u && is_null v) || is_plus (h ⊗ o))
    ⊃ is (agrees k l m (is_plus d || is_null d && is_plus h) (falls u v o))

-- ---- the signs around a triangle u v o, and z
module _ (z u v o : Point) (area : pos 0 <ℤ turn u v o) where
  abbrev τ₁ : Sign
  τ₁ = sign (turn u v z)

  abbrev τ₂ : Sign
  τ₂ = sign (turn v o z)

  abbrev τ₃ : Sign
  τ₃ = sign (turn o u z)

  P₁ : T (could_cancel (τ₁ ⊗ level z o) (τ₂ ⊗ level z u) (τ₃ ⊗ level z v))
  unfolding turn
  P₁ = rw (← sign-* (turn u v z) (o.y -ℤ z.y), ← sign-* (turn v o z) (u.y -ℤ z.y), ← sign-* (turn o u z) (v.y -ℤ z.y))
      (cancels (turn u v z *ℤ (o.y -ℤ z.y)) (turn v o z *ℤ (u.y -ℤ z.y)) (turn o u z *ℤ (v.y -ℤ z.y))
      (solve 8 (λ ux uy vx vy ox oy zx zy. turnₑ ux uy vx vy zx zy :* (oy :- zy) :+ turnₑ vx vy ox oy zx zy :* (uy :- zy) :+ turnₑ ox oy ux uy zx zy :* (vy :- zy) := con (pos 0)) tt
      u.x u.y v.x v.y o.x o.y z.x z.y))

  P₂ : T (some is_plus τ₁ τ₂ τ₃)
  unfolding turn
  P₂ = some_plus (turn u v z) (turn v o z) (turn o u z) (rw (solve 8 (λ ux uy vx vy ox oy zx zy. turnₑ ux uy vx vy zx zy :+ turnₑ vx vy ox oy zx zy :+ turnₑ ox oy ux uy zx zy := turnₑ ux uy vx vy ox oy) tt
      u.x u.y v.x v.y o.x o.y z.x z.y) area)

  P₃ : T (could_cancel (level z u) (opposite (level z v)) (opposite (sign (u.y -ℤ v.y))))
  P₃ = rw (← sign_neg (v.y -ℤ z.y), ← sign_neg (u.y -ℤ v.y))
      (cancels (u.y -ℤ z.y) (neg_ℤ (v.y -ℤ z.y)) (neg_ℤ (u.y -ℤ v.y)) (solve 3 (λ uy vy zy. uy :- zy :+ :- (vy :- zy) :+ :- (uy :- vy) := con (pos 0)) tt u.y v.y z.y))

  flat : u.y -ℤ z.y ≡ pos 0 → v.y -ℤ z.y ≡ pos 0 → turn u v o ≡ (v.x -ℤ u.x) *ℤ (o.y -ℤ z.y)
  unfolding turn
  flat a b = clear _ _ _ _ (clear _ _ _ _ (solve 7 (λ ux uy vx vy ox oy zy.
      turnₑ ux uy vx vy ox oy := (vx :- ux) :* (oy :- zy) :- (uy :- zy) :* (vx :- ox) :- (vy :- zy) :* (ox :- ux)) tt
      u.x u.y v.x v.y o.x o.y z.y) b) a

  P₄ : T (not (is_null (level z u) && is_null (level z v)) || is_plus (sign (v.x -ℤ u.x) ⊗ level z o))
  P₄ = go (is_null (level z u)) (is_null (level z v)) refl refl
    where
      go : (i j : Bool) → is_null (level z u) ≡ i → is_null (level z v) ≡ j → T (not (i && j) || is_plus (sign (v.x -ℤ u.x) ⊗ level z o))
      go true true a b = subst (λ s. T (is_plus s)) (sym (has_only plus (turn u v o) area) ∙ ap sign (flat (is_null_lem (u.y -ℤ z.y) a) (is_null_lem (v.y -ℤ z.y) b)) ∙ sign-* (v.x -ℤ u.x) (o.y -ℤ z.y)) tt
      go true false a b = tt
      go false j a b = tt

  -- the leaning of a side by signs: of how far it falls, and of how far it goes to the right
  leans_is : leans (u ⟶ v) ≡ (is_plus (sign (u.y -ℤ v.y)) || is_null (sign (u.y -ℤ v.y)) && is_plus (sign (v.x -ℤ u.x)))
  leans_is = λ i. lt_z-sign v.y u.y i || eq_z-sign u.y v.y i && lt_z-sign u.x v.x i

  side : T (agrees τ₁ τ₂ τ₃ (leans (u ⟶ v)) (falls (level z u) (level z v) (level z o)))
  unfolding side_rule
  side =
      subst (λ b. T (agrees τ₁ τ₂ τ₃ b (falls (level z u) (level z v) (level z o)))) (sym leans_is)
      (each 8 side_rule tt τ₁ τ₂ τ₃ (level z u) (level z v) (level z o) (sign (u.y -ℤ v.y)) (sign (v.x -ℤ u.x)) P₁ P₂ P₃ P₄)

  -- the three heights are not all 0
  slanted : T (not (is_null (level z u) && is_null (level z v) && is_null (level z o)))
  slanted = each 4 (λ u v o h. not (is_null u && is_null v) || is_plus (h ⊗ o) ⊃ is (not (is_null u && is_null v && is_null o))) tt
      (level z u) (level z v) (level z o) (sign (v.x -ℤ u.x)) P₄

-- the leanings of the three sides as the signs x, y and w, of which only being plus counts
around : Sign → Sign → Sign → Sign → Sign → Sign → Bool → Bool → Bool → Claim
around k l m a b c x y w =
    could_cancel (k ⊗ c) (l ⊗ a) (m ⊗ b) ⊃ some is_plus k l m ⊃ not (is_null a && is_null b && is_null c)
    ⊃ agrees k l m x (falls a b c) ⊃ agrees l m k y (falls b c a) ⊃ agrees m k l w (falls c a b)
    ⊃ passes a b k +ℤ (passes b c l +ℤ (passes c a m +ℤ pos 0)) == pos (bit ((is_plus k || is_null k && x) && (is_plus l || is_null l && y) && (is_plus m || is_null m && w)))

around_all : (k l m a b c x y w : Sign) → Holds (around k l m a b c (is_plus x) (is_plus y) (is_plus w))
unfolding around
around_all = each 9 (λ k l m a b c x y w. around k l m a b c (is_plus x) (is_plus y) (is_plus w)) tt

mark : Bool → Sign
mark true = plus
mark false = null

is_plus-mark : (b : Bool) → is_plus (mark b) ≡ b
unfolding mark
is_plus-mark true = refl
is_plus-mark false = refl

around_is : (k l m a b c : Sign) (x y w : Bool) → Holds (around k l m a b c x y w)
around_is k l m a b c x y w = rw (← is_plus-mark x, ← is_plus-mark y, ← is_plus-mark w) (around_all k l m a b c (mark x) (mark y) (mark w))

pub turn_turn : (u v o : Point) → turn v o u ≡ turn u v o
unfolding turn
turn_turn u v o = solve 6 (λ ux uy vx vy ox oy. turnₑ vx vy ox oy ux uy := turnₑ ux uy vx vy ox oy) tt u.x u.y v.x v.y o.x o.y

pub keeps_is : (z u v : Point) → keeps z (u ⟶ v) ≡ (is_plus (sign (turn u v z)) || is_null (sign (turn u v z)) && leans (u ⟶ v))
keeps_is z u v = rw (lt_z-plus (turn u v z), zero_sign (turn u v z))

-- Around a triangle of positive area: once if z belongs to it, and never otherwise.
pub triangle_wind : (z : Point) (t : Triangle) → pos 0 <ℤ double t → sum (wind z) (sides t) ≡ pos (bit (belongs z t))
unfolding belongs around
triangle_wind z t h = go t.a t.b t.c h (rw turn_turn h) (rw (turn_turn, turn_turn) h)
  where
    go : (a b c : Point) → pos 0 <ℤ turn a b c → pos 0 <ℤ turn b c a → pos 0 <ℤ turn c a b
        → wind z (a ⟶ b) +ℤ (wind z (b ⟶ c) +ℤ (wind z (c ⟶ a) +ℤ pos 0)) ≡ pos (bit (keeps z (a ⟶ b) && keeps z (b ⟶ c) && keeps z (c ⟶ a)))
    go a b c h h' h'' =
        rw (wind_is z a b, wind_is z b c, wind_is z c a, keeps_is z a b, keeps_is z b c, keeps_is z c a)
        (around_is (sign (turn a b z)) (sign (turn b c z)) (sign (turn c a z)) (level z a) (level z b) (level z c) (leans (a ⟶ b)) (leans (b ⟶ c)) (leans (c ⟶ a))
        (P₁ z a b c h) (P₂ z a b c h) (slanted z a b c h) (side z a b c h) (side z b c a h') (side z c a b h''))
