-- Held corners and the points they stand for: what was added to each coordinate cancels. Assumes nothing.
use mathlib.Core.Path.{◌≡◌, sym, ◌∙◌, ap, ap₂, subst}
use mathlib.Core.Bool.{◌&&◌}
use Prim.Native.Nat.{ℕ}
use lib.Dec.{T, eqb, eqb→eq, eqb_refl}
use lib.IntN.{pos, ◌+ℤ◌, ◌-ℤ◌, ◌*ℤ◌}
use Rattle.whole.specs.Numbers.{eq_z}
use Rattle.whole.proofs.Int.{eq_z-eq, eq_z-refl}
use Rattle.whole.specs.Polynomials.{◌:+◌, ◌:-◌, ◌:*◌, ◌:=◌}
use Rattle.whole.proofs.Ring.{solve}
use Rattle.whole.proofs.Sums.{bool_iff}
use Rattle.plane.specs.declared.Corner.{Corner}
use Rattle.plane.specs.Points.{Point, same_point, turn}
use Rattle.plane.specs.Corners.{millimetres}
use Rattle.plane.specs.Keys.{point}
use Rattle.plane.proofs.Points.{turnₑ}

-- Equal coordinates, equal held numbers.
held_same : (m n : ℕ) → eqb m n ≡ eq_z (millimetres m) (millimetres n)
held_same m n = bool_iff (eqb m n) (eq_z (millimetres m) (millimetres n))
    (λ t. subst (λ k. T (eq_z (millimetres m) (millimetres k))) (eqb→eq m n t) (eq_z-refl (millimetres m)))
    (λ t. subst (λ k. T (eqb m k)) (back (eq_z-eq (millimetres m) (millimetres n) t)) (eqb_refl m))
  where
    back : millimetres m ≡ millimetres n → m ≡ n
    back e = cc (sym (again m) ∙ ap (λ z. z +ℤ pos 10_000_000) e ∙ again n)
      where
        again : (k : ℕ) → millimetres k +ℤ pos 10_000_000 ≡ pos k
        again k = solve 2 (λ k o. (k :- o) :+ o := k) tt (pos k) (pos 10_000_000)

pub corner_same : (p q : Corner) → (eqb p.x q.x && eqb p.y q.y) ≡ same_point (point p) (point q)
corner_same p q = ap₂ ◌&&◌ (held_same p.x q.x) (held_same p.y q.y)

-- The double area as a sum of two products.
pub turn_products : (a b c : Point) → (b.x -ℤ a.x) *ℤ (c.y -ℤ a.y) +ℤ (a.x -ℤ c.x) *ℤ (b.y -ℤ a.y) ≡ turn a b c
unfolding turn
turn_products a b c = solve 6 (λ ax ay bx by cx cy. (bx :- ax) :* (cy :- ay) :+ (ax :- cx) :* (by :- ay) := turnₑ ax ay bx by cx cy) tt a.x a.y b.x b.y c.x c.y
