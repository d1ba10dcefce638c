-- The edge-sum law for ordered pairs of points, what the test `agree` tells, and the double area of what triangles bound.
-- The idea: px·qy - qx·py changes its sign with the direction, and round a triangle it adds up to the double area. Assumes nothing.
use mathlib.Core.Path.{◌≡◌, refl, sym, ◌∙◌, ap}
use mathlib.Core.Logic.{◌↔◌}
use mathlib.Core.List.{List, ◌++◌}
use lib.Dec.{T}
use lib.IntN.{ℤ, pos, neg_ℤ, ◌+ℤ◌, +ℤ_idl}
use Rattle.whole.specs.Numbers.{eq_z}
use Rattle.whole.specs.Sums.{All, sum}
use Rattle.whole.proofs.Int.{eq_z-eq, eq_z-refl}
use Rattle.whole.specs.Polynomials.{con, ◌:+◌, ◌:-◌, ◌:*◌, :-◌, ◌:=◌}
use Rattle.whole.proofs.Ring.{solve}
use Rattle.whole.proofs.Sums.{all_of, every_all, all_every, sum-flat_map, net_everywhere, same_sum}
use Rattle.plane.specs.Points.{Point, Edge, Triangle, ◌⟶◌, flip, sides, same_edge, turn, double, cross, between}
use Rattle.plane.specs.Boundaries.{boundary, SameBoundary, agree, sides_of}
use Rattle.plane.proofs.Points.{same_edge-eq, same_edge-refl, turnₑ, between_line}

-- The edge-sum law: a function that changes its sign with the direction adds up to the same over two lists with the same boundary.
pub edge_sum : (f : Edge → ℤ) → ((e : Edge) → f (flip e) ≡ neg_ℤ (f e)) → (l m : List Edge) → SameBoundary l m → sum f l ≡ sum f m
edge_sum f odd = same_sum same_edge same_edge-eq same_edge-refl flip (λ e. refl) f odd

-- Boundaries that are equal at the pairs of the two lists are equal at every ordered pair.
pub equal_everywhere : (l m : List Edge) → All (λ e. boundary l e ≡ boundary m e) (l ++ m) → SameBoundary l m
equal_everywhere = net_everywhere same_edge same_edge-eq same_edge-refl flip (λ e. refl)

-- The test tells exactly that.
pub agree_is : (l m : List Edge) → T (agree l m) ↔ SameBoundary l m
unfolding agree
agree_is l m = (
  λ t. equal_everywhere l m (every_all (λ e. eq_z (boundary l e) (boundary m e)) (λ e. boundary l e ≡ boundary m e) (λ e. eq_z-eq (boundary l e) (boundary m e)) (l ++ m) t),
  λ h. all_every (λ e. eq_z (boundary l e) (boundary m e)) (λ e. boundary l e ≡ boundary m e) (λ e p. rw p (eq_z-refl (boundary m e))) (l ++ m)
      (all_of (λ e. boundary l e ≡ boundary m e) h (l ++ m)),
)

pub cross_flip : (e : Edge) → cross (flip e) ≡ neg_ℤ (cross e)
unfolding cross
cross_flip e = solve 4 (λ ux uy vx vy. vx :* uy :- ux :* vy := :- (ux :* vy :- vx :* uy)) tt e.from.x e.from.y e.to.x e.to.y

-- At a point on the straight line of an edge it adds up.
pub cross_adds : (e : Edge) (c : Point) → T (between c e) → cross (e.from ⟶ c) +ℤ cross (c ⟶ e.to) ≡ cross e
unfolding cross turn
cross_adds e c t = with_turn e.from c e.to ∙ ap (λ z. z +ℤ cross e) (between_line c e t) ∙ +ℤ_idl (cross e)
  where
    with_turn : (u c v : Point) → cross (u ⟶ c) +ℤ cross (c ⟶ v) ≡ turn u c v +ℤ cross (u ⟶ v)
    with_turn u c v = solve 6 (λ ux uy cx cy vx vy. (ux :* cy :- cx :* uy) :+ (cx :* vy :- vx :* cy) := turnₑ ux uy cx cy vx vy :+ (ux :* vy :- vx :* uy)) tt
        u.x u.y c.x c.y v.x v.y

pub cross_sides : (t : Triangle) → sum cross (sides t) ≡ double t
unfolding cross turn
cross_sides t =
    solve 6 (λ ax ay bx by cx cy. (ax :* by :- bx :* ay) :+ ((bx :* cy :- cx :* by) :+ ((cx :* ay :- ax :* cy) :+ con (pos 0))) := turnₑ ax ay bx by cx cy) tt
    t.a.x t.a.y t.b.x t.b.y t.c.x t.c.y

-- The double areas of triangles add up to the sum of px·qy - qx·py over any list of pairs with their boundary.
pub areas : (s : List Triangle) (l : List Edge) → SameBoundary (sides_of s) l → sum double s ≡ sum cross l
areas s l h = sym (sum-flat_map cross sides double cross_sides s) ∙ edge_sum cross cross_flip (sides_of s) l h
