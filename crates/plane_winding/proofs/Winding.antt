-- How often an edge passes to the right of a grid point: an odd function of edges that adds up at a cut.
-- The idea: an edge passes by the signs of the heights of its ends over the point and of the side that the point is on; each law is then one of signs. Assumes nothing.
use mathlib.Core.Path.{◌≡◌, sym, ◌∙◌, ap, ap₂, subst}
use mathlib.Core.Bool.{Bool, true, false, not, ◌&&◌, ◌||◌}
use Prim.Native.Nat.{ℕ, suc, ◌*◌, zero-le}
use native.Mathlib.Omega.{arith}
use lib.IntN.{ℤ, pos, negsuc, neg_ℤ, ◌+ℤ◌, ◌-ℤ◌, ◌*ℤ◌, zero-*ℤ, +ℤ_idr}
use lib.Signed.{◌≤ℤ◌, ◌<ℤ◌, lt_z, le_z_yes, lt_z_yes, lt_z_no}
use lib.Dec.{T, le→leb}
use Rattle.whole.specs.Sums.{bit}
use Rattle.whole.proofs.Int.{zify, ints, parts, add_pos}
use Rattle.whole.specs.Polynomials.{Expr, ◌:+◌, ◌:-◌, ◌:*◌, :-◌, ◌:=◌}
use Rattle.whole.proofs.Ring.{solve}
use Rattle.plane.specs.Points.{Point, Edge, ◌⟶◌, flip, turn, between, onward}
use Rattle.plane.proofs.Points.{turnₑ, onwardₑ, between_line, between_onward}
use Rattle.plane_winding.specs.Winding.{wind}
use Rattle.whole_signs.proofs.Signs.{Sign, minus, null, plus, sign, is_plus, is_minus, opposite, ◌⊗◌, Has, has, has_only, sign_neg, sign-*, sign_scale, lt_z-sign, le_z-sign, lt_z-plus, lt_z-minus}
use Rattle.whole_signs.proofs.Each.{each, ◌==◌, ◌⊃◌}

-- the same, by the signs of the ends' heights over z and of the side that z is on
abbrev pub level : Point → Point → Sign
level z p = sign (p.y -ℤ z.y)

abbrev pub passes : Sign → Sign → Sign → ℤ
passes p q k = pos (bit (not (is_plus p) && is_plus q && is_plus k)) -ℤ pos (bit (not (is_plus q) && is_plus p && is_minus k))

-- of three points the middle one alone is above the row, or alone is not
abbrev bends : Bool → Bool → Bool → Bool
bends p q r = p && not q && r || not p && q && not r

pub wind_is : (z u v : Point) → wind z (u ⟶ v) ≡ passes (level z u) (level z v) (sign (turn u v z))
unfolding wind
wind_is z u v =
    λ i. pos (bit (le_z-sign u.y z.y i && lt_z-sign z.y v.y i && lt_z-plus (turn u v z) i))
    -ℤ pos (bit (le_z-sign v.y z.y i && lt_z-sign z.y u.y i && lt_z-minus (turn u v z) i))

-- ---- odd
pub turn_flip : (u v z : Point) → turn v u z ≡ neg_ℤ (turn u v z)
unfolding turn
turn_flip u v z =
    solve 6 (λ ux uy vx vy zx zy. (ux :- vx) :* (zy :- vy) :- (zx :- vx) :* (uy :- vy) := :- ((vx :- ux) :* (zy :- uy) :- (zx :- ux) :* (vy :- uy))) tt
    u.x u.y v.x v.y z.x z.y

passes_flip : (p q k : Sign) → passes q p (opposite k) ≡ neg_ℤ (passes p q k)
passes_flip = each 3 (λ p q k. passes q p (opposite k) == neg_ℤ (passes p q k)) tt

pub wind_flip : (z : Point) (e : Edge) → wind z (flip e) ≡ neg_ℤ (wind z e)
wind_flip z e =
    wind_is z e.to e.from
    ∙ ap (λ k. passes (level z e.to) (level z e.from) k) (ap sign (turn_flip e.from e.to z) ∙ sign_neg (turn e.from e.to z))
    ∙ passes_flip (level z e.from) (level z e.to) (sign (turn e.from e.to z))
    ∙ ap neg_ℤ (sym (wind_is z e.from e.to))

-- ---- adds up at a cut
-- the product of the vectors from u to c and from u to z
abbrev pub dot : Point → Point → Point → ℤ
dot u c z = (c.x -ℤ u.x) *ℤ (z.x -ℤ u.x) +ℤ (c.y -ℤ u.y) *ℤ (z.y -ℤ u.y)

abbrev pub dotₑ : Expr → Expr → Expr → Expr → Expr → Expr → Expr
dotₑ ux uy cx cy zx zy = (cx :- ux) :* (zx :- ux) :+ (cy :- uy) :* (zy :- uy)

whole : (u c v z : Point) → turn u v z *ℤ dot u c c ≡ turn u c z *ℤ (dot u c c +ℤ onward u c v) -ℤ turn u c v *ℤ dot u c z
unfolding turn onward
whole u c v z =
    solve 8 (λ ux uy cx cy vx vy zx zy. turnₑ ux uy vx vy zx zy :* dotₑ ux uy cx cy cx cy
    := turnₑ ux uy cx cy zx zy :* (dotₑ ux uy cx cy cx cy :+ onwardₑ ux uy cx cy vx vy) :- turnₑ ux uy cx cy vx vy :* dotₑ ux uy cx cy zx zy) tt
    u.x u.y c.x c.y v.x v.y z.x z.y

second : (u c v z : Point) → turn c v z *ℤ dot u c c ≡ turn u c z *ℤ onward u c v -ℤ turn u c v *ℤ (dot u c z -ℤ dot u c c)
unfolding turn onward
second u c v z =
    solve 8 (λ ux uy cx cy vx vy zx zy. turnₑ cx cy vx vy zx zy :* dotₑ ux uy cx cy cx cy
    := turnₑ ux uy cx cy zx zy :* onwardₑ ux uy cx cy vx vy :- turnₑ ux uy cx cy vx vy :* (dotₑ ux uy cx cy zx zy :- dotₑ ux uy cx cy cx cy)) tt
    u.x u.y c.x c.y v.x v.y z.x z.y

rise : (u c v : Point) → (v.y -ℤ c.y) *ℤ dot u c c ≡ (c.y -ℤ u.y) *ℤ onward u c v -ℤ turn u c v *ℤ (u.x -ℤ c.x)
unfolding turn onward
rise u c v =
    solve 6 (λ ux uy cx cy vx vy. (vy :- cy) :* dotₑ ux uy cx cy cx cy
    := (cy :- uy) :* onwardₑ ux uy cx cy vx vy :- turnₑ ux uy cx cy vx vy :* (ux :- cx)) tt
    u.x u.y c.x c.y v.x v.y

lagrange : (u c v : Point) → dot u c c *ℤ dot c v v ≡ onward u c v *ℤ onward u c v -ℤ turn u c v *ℤ neg_ℤ (turn u c v)
unfolding turn onward
lagrange u c v =
    solve 6 (λ ux uy cx cy vx vy. dotₑ ux uy cx cy cx cy :* dotₑ cx cy vx vy vx vy
    := onwardₑ ux uy cx cy vx vy :* onwardₑ ux uy cx cy vx vy :- turnₑ ux uy cx cy vx vy :* :- turnₑ ux uy cx cy vx vy) tt
    u.x u.y c.x c.y v.x v.y

-- where t is 0
pub clear : (p q t w : ℤ) → p ≡ q -ℤ t *ℤ w → t ≡ pos 0 → p ≡ q
clear p q t w e z = e ∙ rw (z, zero-*ℤ w) (+ℤ_idr q)

pub square : (z : ℤ) → pos 0 ≤ℤ (z *ℤ z)
square (pos n) = le_z_yes (le→leb 0 (n * n) zero-le)
square (negsuc n) = le_z_yes (le→leb 0 (suc n * suc n) zero-le)

pub add_nonneg : (z w : ℤ) → pos 0 ≤ℤ z → pos 0 ≤ℤ w → pos 0 ≤ℤ (z +ℤ w)
add_nonneg z w h k = rw (parts z, parts w) (simp zify (omega (arith, ints)))

null≢plus : null ≡ plus → ⊥
null≢plus e = let z : ◌≡◌ {A = ℕ} 0 1 = cc in omega arith

minus≢plus : minus ≡ plus → ⊥
minus≢plus e = let z : ◌≡◌ {A = ℕ} 0 1 = cc in omega arith

apart : (a b z : ℤ) → lt_z z a ≡ true → lt_z z b ≡ false → ((b -ℤ a) <ℤ pos 0) × (pos 0 <ℤ (a -ℤ b))
apart a b z i j = (rw (parts a, parts b) (simp zify (omega (arith, ints, h, k))), rw (parts a, parts b) (simp zify (omega (arith, ints, h, k))))
  where
    h : z <ℤ a
    h = lt_z_yes (subst T (sym i) tt)

    k : b ≤ℤ z
    k = lt_z_no (subst (λ t. T (not t)) (sym j) tt)

module _ (u c v : Point) (on : turn u c v ≡ pos 0) (ahd : pos 0 <ℤ onward u c v) where
  product : dot u c c *ℤ dot c v v ≡ onward u c v *ℤ onward u c v
  product = clear _ _ _ _ (lagrange u c v) on

  pub long : pos 0 <ℤ dot u c c
  long = go (sign (dot u c c)) (has (dot u c c)) (add_nonneg _ _ (square (c.x -ℤ u.x)) (square (c.y -ℤ u.y)))
    where
      go : (s : Sign) → Has s (dot u c c) → pos 0 ≤ℤ dot u c c → pos 0 <ℤ dot u c c
      go minus h k = absurd (omega (arith, ints))
      go null h k = absurd (null≢plus (sym (sign-* (dot u c c) (dot c v v) ∙ ap (λ s. s ⊗ sign (dot c v v)) (has_only null (dot u c c) h))
          ∙ ap sign product ∙ sign-* (onward u c v) (onward u c v) ∙ ap₂ ◌⊗◌ (has_only plus (onward u c v) ahd) (has_only plus (onward u c v) ahd)))
      go plus h k = h

  pub second_sign : (z : Point) → sign (turn c v z) ≡ sign (turn u c z)
  second_sign z = sign_scale (dot u c c) (onward u c v) (turn c v z) (turn u c z) long ahd (clear _ _ _ _ (second u c v z) on)

  pub whole_sign : (z : Point) → sign (turn u v z) ≡ sign (turn u c z)
  whole_sign z = sign_scale (dot u c c) (dot u c c +ℤ onward u c v) (turn u v z) (turn u c z) long (add_pos _ _ long ahd) (clear _ _ _ _ (whole u c v z) on)

  rise_sign : sign (v.y -ℤ c.y) ≡ sign (c.y -ℤ u.y)
  rise_sign = sign_scale (dot u c c) (onward u c v) (v.y -ℤ c.y) (c.y -ℤ u.y) long ahd (clear _ _ _ _ (rise u c v) on)

  -- c is not above a row that both ends are at or below, nor the other way round
  rows : (z : Point) → T (not (bends (is_plus (level z u)) (is_plus (level z c)) (is_plus (level z v))))
  rows z = go (is_plus (level z u)) (is_plus (level z c)) (is_plus (level z v)) (lt_z-sign z.y u.y) (lt_z-sign z.y c.y) (lt_z-sign z.y v.y)
    where
      go : (p q r : Bool) → lt_z z.y u.y ≡ p → lt_z z.y c.y ≡ q → lt_z z.y v.y ≡ r → T (not (bends p q r))
      go true true true i j k = tt
      go true true false i j k = tt
      go true false true i j k = minus≢plus (sym (has_only minus _ (apart u.y c.y z.y i j).0) ∙ sym rise_sign ∙ has_only plus _ (apart v.y c.y z.y k j).1)
      go true false false i j k = tt
      go false true true i j k = tt
      go false true false i j k = minus≢plus (sym (has_only minus _ (apart c.y v.y z.y j k).0) ∙ rise_sign ∙ has_only plus _ (apart c.y u.y z.y j i).1)
      go false false true i j k = tt
      go false false false i j k = tt

passes_adds : (p q r k : Sign) → T (not (bends (is_plus p) (is_plus q) (is_plus r))) → passes p q k +ℤ passes q r k ≡ passes p r k
passes_adds = each 4 (λ p q r k. not (bends (is_plus p) (is_plus q) (is_plus r)) ⊃ passes p q k +ℤ passes q r k == passes p r k) tt

pub wind_adds : (z : Point) (e : Edge) (c : Point) → T (between c e) → wind z (e.from ⟶ c) +ℤ wind z (c ⟶ e.to) ≡ wind z e
wind_adds z e c t = go e.from e.to (between_line c e t) (between_onward c e t)
  where
    go : (u v : Point) → turn u c v ≡ pos 0 → pos 0 <ℤ onward u c v → wind z (u ⟶ c) +ℤ wind z (c ⟶ v) ≡ wind z (u ⟶ v)
    go u v on ahd = rw (wind_is z u c, wind_is z c v, wind_is z u v, second_sign u c v on ahd z, whole_sign u c v on ahd z)
        (passes_adds (level z u) (level z c) (level z v) (sign (turn u c z)) (rows u c v on ahd z))
