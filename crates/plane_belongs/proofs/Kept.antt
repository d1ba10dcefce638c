-- Numbers of 32 bits and held coordinates are small; and the tests on held coordinates are those of the definitions. Assumes nothing.
use mathlib.Core.Path.{◌≡◌, refl, sym, ◌∙◌, ap, ap₂, subst}
use mathlib.Core.Bool.{Bool, true, false, ◌&&◌, ◌||◌}
use Prim.Native.Nat.{ℕ, ◌+◌, ◌≤◌, ◌<◌}
use native.Mathlib.Omega.{arith}
use lib.Dec.{T, ltb, ltb→lt, lt→ltb}
use lib.IntN.{ℤ, pos, negsuc, neg_ℤ, ◌-ℤ◌}
use lib.Signed.{◌<ℤ◌, lt_z, lt_z_yes}
use mir.Syntax.{w32}
use mir.Val.{SFits}
use Rattle.whole.specs.Numbers.{eq_z, Within}
use Rattle.whole.proofs.Int.{◌⊖◌, up, down, is_add, is_neg, ⊖-lt, eq_z-eq, eq_z-refl}
use Rattle.whole_signs.proofs.Signs.{by_T, by_no_T}
use Rattle.plane.specs.Points.{Point, Edge, Triangle, ◌⟶◌, turn}
use Rattle.plane.specs.Corners.{millimetres}
use Rattle.plane.specs.Keys.{point, Held}
use Rattle.plane.specs.declared.Corner.{Corner}
use Rattle.plane.proofs.Keys.{millimetres_same}
use Rattle.plane_winding.specs.Winding.{leans, keeps, belongs}

-- ---- sizes
pub near : (z : ℤ) → SFits w32 z → Within 2_147_483_648 z
near (pos n) f = record { size = omega (arith, f.sfits) }
near (negsuc n) f = record { size = omega (arith, f.sfits) }

pub held_near : (u : ℕ) → Held u → Within 10_000_000 (millimetres u)
held_near u h = go (pos u -ℤ pos 10_000_000) (is_add (pos u) (neg_ℤ (pos 10_000_000)) u 0 0 10_000_000 refl (is_neg (pos 10_000_000) 10_000_000 0 refl))
  where
    go : (z : ℤ) → up z + (0 + 10_000_000) ≡ u + 0 + down z → Within 10_000_000 z
    go (pos a) e = record { size = omega arith }
    go (negsuc a) e = record { size = omega arith }

-- ---- the order of coordinates is that of the held numbers
held_lt : (a b : ℕ) → a < b → millimetres a <ℤ millimetres b
unfolding ◌⊖◌
held_lt a b h = (⊖-lt a 10_000_000 b 10_000_000).1 (omega arith)

held_back : (a b : ℕ) → millimetres a <ℤ millimetres b → a < b
unfolding ◌⊖◌
held_back a b h = omega (arith, (⊖-lt a 10_000_000 b 10_000_000).0 h)

below : (a b : ℕ) → a < b → lt_z (millimetres a) (millimetres b) ≡ true
below a b h = by_T _ (held_lt a b h).lt

not_below : (a b : ℕ) → b ≤ a → lt_z (millimetres a) (millimetres b) ≡ false
not_below a b h = by_no_T _ (λ t. omega (arith, held_back a b (lt_z_yes t)))

pub ltb_held : (a b : ℕ) → ltb a b ≡ lt_z (millimetres a) (millimetres b)
ltb_held a b = go (ltb a b) refl
  where
    go : (t : Bool) → ltb a b ≡ t → t ≡ lt_z (millimetres a) (millimetres b)
    go true e = sym (below a b (ltb→lt a b (subst T (sym e) tt)))
    go false e = sym (by_no_T _ (λ t. subst T e (lt→ltb a b (held_back a b (lt_z_yes t)))))

module _ (u v : Corner) where
  abbrev side : Edge
  side = point u ⟶ point v

  -- A side that runs downward leans, one that runs upward doesn't, and a level one does where it runs to the right.
  pub downward : v.y < u.y → leans (point u ⟶ point v) ≡ true
  downward h = ap (λ b. b || eq_z side.from.y side.to.y && lt_z side.from.x side.to.x) (below v.y u.y h)

  -- (By whether it runs downward, and level.)
  by_tests : {b c : Bool} → lt_z (millimetres v.y) (millimetres u.y) ≡ b → eq_z (millimetres u.y) (millimetres v.y) ≡ c
      → leans (point u ⟶ point v) ≡ (b || c && lt_z (millimetres u.x) (millimetres v.x))
  by_tests p q = ap₂ (λ b c. b || c && lt_z (millimetres u.x) (millimetres v.x)) p q

  pub upward : u.y < v.y → leans (point u ⟶ point v) ≡ false
  upward h =
      by_tests (not_below v.y u.y (omega arith))
      (by_no_T (eq_z (millimetres u.y) (millimetres v.y)) (λ t. let e = millimetres_same u.y v.y (eq_z-eq (millimetres u.y) (millimetres v.y) t) in omega (arith, e)))

  pub level : u.y ≡ v.y → leans (point u ⟶ point v) ≡ ltb u.x v.x
  level e =
      by_tests (not_below v.y u.y (omega arith))
      (by_T (eq_z (millimetres u.y) (millimetres v.y)) (subst (λ y. T (eq_z (millimetres u.y) (millimetres y))) e (eq_z-refl (millimetres u.y))))
      ∙ sym (ltb_held u.x v.x)

-- ---- what a side keeps
module _ (z : Point) (e : Edge) where
  -- On the line of the side it is kept where the side leans; off the line, where it is to the left.
  pub on_line : turn e.from e.to z ≡ pos 0 → keeps z e ≡ leans e
  on_line h = rw h

  pub off_line : (turn e.from e.to z ≡ pos 0 → ⊥) → keeps z e ≡ lt_z (pos 0) (turn e.from e.to z)
  off_line f = go (lt_z (pos 0) (turn e.from e.to z)) (eq_z (turn e.from e.to z) (pos 0)) (λ t. f (eq_z-eq _ _ t))
    where
      go : (b c : Bool) → (T c → ⊥) → (b || c && leans e) ≡ b
      go true c f = refl
      go false true f = absurd (f tt)
      go false false f = refl

-- ---- the three sides
module _ (z : Point) (t : Triangle) where
  pub not_by_first : keeps z (t.a ⟶ t.b) ≡ false → belongs z t ≡ false
  unfolding belongs
  not_by_first h = ap (λ b. b && keeps z (t.b ⟶ t.c) && keeps z (t.c ⟶ t.a)) h

  pub not_by_second : keeps z (t.a ⟶ t.b) ≡ true → keeps z (t.b ⟶ t.c) ≡ false → belongs z t ≡ false
  unfolding belongs
  not_by_second g h = ap₂ (λ a b. a && b && keeps z (t.c ⟶ t.a)) g h

  pub by_third : keeps z (t.a ⟶ t.b) ≡ true → keeps z (t.b ⟶ t.c) ≡ true → belongs z t ≡ keeps z (t.c ⟶ t.a)
  unfolding belongs
  by_third g h = ap₂ (λ a b. a && b && keeps z (t.c ⟶ t.a)) g h
