-- The double area of one ring: one product at each corner gives the same, and in reverse order it is the negative.
-- The idea: along points the products at the corners and the shares of the edges differ by one product at either end, and these two are the same where the
-- ring is closed. Assumes nothing.
use mathlib.Core.Path.{◌≡◌, refl, sym, ◌∙◌, ap, ap₂}
use mathlib.Core.List.{[], ◌∷◌, ◌++◌, reverse, reverse-cons, append_assoc}
use Prim.Native.Nat.{◌-◌}
use native.Mathlib.Omega.{arith}
use lib.IntN.{ℤ, pos, neg_ℤ, ◌+ℤ◌, ◌-ℤ◌, ◌*ℤ◌}
use lib.ListN.{length, get_or, length-reverse}
use Rattle.whole.specs.Polynomials.{con, ◌:+◌, ◌:-◌, ◌:*◌, :-◌, ◌:=◌}
use Rattle.whole.proofs.Ring.{solve}
use Rattle.whole.specs.Sums.{sum}
use Rattle.plane.specs.Points.{Point, ◌⟶◌, cross}
use Rattle.plane.specs.Members.{Ring, edges}
use Rattle.plane_rings.specs.Rings.{ring_area}
use Rattle.plane_rings.specs.Closed.{origin, Closed, RingLimits}
use Rattle.plane_rings.specs.Corners.{along, corner_sum}
use Rattle.plane_rings.proofs.Reverse.{first_reverse, last_reverse}

-- ---- by corners
-- The last of points, and the last but one.
abbrev final : Point → Ring → Point
final q [] = q
final q (r ∷ l) = final r l

abbrev penultimate : Point → Point → Ring → Point
penultimate p q [] = p
penultimate p q (r ∷ l) = penultimate q r l

final_at : (q : Point) (l : Ring) → get_or (q ∷ l) (length l) origin ≡ final q l
final_at q [] = refl
final_at q (r ∷ l) = final_at r l

penultimate_at : (p q : Point) (l : Ring) → get_or (p ∷ q ∷ l) (length l) origin ≡ penultimate p q l
penultimate_at p q [] = refl
penultimate_at p q (r ∷ l) = penultimate_at q r l

-- The sum along points with each x moved by k.
abbrev pub along_by : ℤ → Ring → ℤ
along_by k [] = pos 0
along_by k (p ∷ []) = pos 0
along_by k (p ∷ q ∷ []) = pos 0
along_by k (p ∷ q ∷ r ∷ l) = (q.x +ℤ k) *ℤ (r.y -ℤ p.y) +ℤ along_by k (q ∷ r ∷ l)

-- What the products at the corners and the shares of the edges differ by.
along_edges : (k : ℤ) (p q : Point) (l : Ring)
    → along_by k (p ∷ q ∷ l) +ℤ (q.x *ℤ p.y +ℤ k *ℤ (p.y +ℤ q.y))
    ≡ sum cross (edges (q ∷ l)) +ℤ ((final q l).x *ℤ (penultimate p q l).y +ℤ k *ℤ ((penultimate p q l).y +ℤ (final q l).y))
unfolding cross
along_edges k p q [] = refl
along_edges k p q (r ∷ l) =
    solve 7
    (λ k py qx qy rx ry a. ((qx :+ k) :* (ry :- py) :+ a) :+ (qx :* py :+ k :* (py :+ qy)) := (qx :* ry :- rx :* qy) :+ (a :+ (rx :* qy :+ k :* (qy :+ ry))))
    tt k p.y q.x q.y r.x r.y (along_by k (q ∷ r ∷ l))
    ∙ ap (λ z. cross (q ⟶ r) +ℤ z) (along_edges k q r l)
    ∙ solve 3 (λ c s e. c :+ (s :+ e) := c :+ s :+ e) tt (cross (q ⟶ r)) (sum cross (edges (r ∷ l)))
    ((final r l).x *ℤ (penultimate q r l).y +ℤ k *ℤ ((penultimate q r l).y +ℤ (final r l).y))

-- A closed ring's products at the corners sum up to its double area, wherever x is counted from.
pub moved_sum : (k : ℤ) (r : Ring) → Closed r → along_by k (get_or r (length r - 2) origin ∷ r) ≡ ring_area r
unfolding ring_area
moved_sum k [] c = refl
moved_sum k (p ∷ []) c = refl
moved_sum k (p ∷ q ∷ l) c =
    cancel (along_by k (a ∷ p ∷ q ∷ l)) (sum cross (edges (p ∷ q ∷ l))) (p.x *ℤ a.y +ℤ k *ℤ (a.y +ℤ p.y))
    (along_edges k a p (q ∷ l) ∙ ap₂ (λ e b. sum cross (edges (p ∷ q ∷ l)) +ℤ (e.x *ℤ b.y +ℤ k *ℤ (b.y +ℤ e.y))) last before)
  where
    a : Point
    a = get_or (p ∷ q ∷ l) (length (p ∷ q ∷ l) - 2) origin

    last : final p (q ∷ l) ≡ p
    last = let e : length (p ∷ q ∷ l) - 1 ≡ length (q ∷ l) = omega arith in sym (final_at p (q ∷ l)) ∙ sym (ap (λ i. get_or (p ∷ q ∷ l) i origin) e) ∙ c

    before : penultimate a p (q ∷ l) ≡ a
    before = let e : length (p ∷ q ∷ l) - 2 ≡ length l = omega arith in sym (penultimate_at p q l) ∙ sym (ap (λ i. get_or (p ∷ q ∷ l) i origin) e)

    cancel : (u v e : ℤ) → u +ℤ e ≡ v +ℤ e → u ≡ v
    cancel u v e h = solve 2 (λ u e. u := u :+ e :- e) tt u e ∙ ap (λ z. z -ℤ e) h ∙ solve 2 (λ v e. v :+ e :- e := v) tt v e

along_still : (l : Ring) → along l ≡ along_by (pos 0) l
along_still [] = refl
along_still (p ∷ []) = refl
along_still (p ∷ q ∷ []) = refl
along_still (p ∷ q ∷ r ∷ l) = ap₂ ◌+ℤ◌ (solve 2 (λ x d. x :* d := (x :+ con (pos 0)) :* d) tt q.x (r.y -ℤ p.y)) (along_still (q ∷ r ∷ l))

pub corner_sum_lem : (r : Ring) → Closed r → corner_sum r ≡ ring_area r
unfolding corner_sum
corner_sum_lem r c = along_still (get_or r (length r - 2) origin ∷ r) ∙ moved_sum (pos 0) r c

-- ---- in reverse order
-- One edge more at the end.
edge_behind : (l : Ring) (p q : Point) → sum cross (edges (l ++ p ∷ q ∷ [])) ≡ sum cross (edges (l ++ p ∷ [])) +ℤ cross (p ⟶ q)
edge_behind [] p q = solve 1 (λ c. c :+ con (pos 0) := con (pos 0) :+ c) tt (cross (p ⟶ q))
edge_behind (a ∷ []) p q = solve 2 (λ c d. c :+ (d :+ con (pos 0)) := c :+ con (pos 0) :+ d) tt (cross (a ⟶ p)) (cross (p ⟶ q))
edge_behind (a ∷ b ∷ l) p q =
    ap (λ z. cross (a ⟶ b) +ℤ z) (edge_behind (b ∷ l) p q)
    ∙ solve 3 (λ c s d. c :+ (s :+ d) := c :+ s :+ d) tt (cross (a ⟶ b)) (sum cross (edges (b ∷ l ++ p ∷ []))) (cross (p ⟶ q))

pub area_reverse : (r : Ring) → ring_area (reverse r) ≡ neg_ℤ (ring_area r)
unfolding ring_area cross
area_reverse [] = refl
area_reverse (p ∷ []) = refl
area_reverse (p ∷ q ∷ l) =
    ap (λ r. sum cross (edges r)) points
    ∙ edge_behind (reverse l) q p
    ∙ ap (λ r. sum cross (edges r) +ℤ cross (q ⟶ p)) (sym (reverse-cons q l))
    ∙ ap (λ z. z +ℤ cross (q ⟶ p)) (area_reverse (q ∷ l))
    ∙ solve 5 (λ s px py qx qy. :- s :+ (qx :* py :- px :* qy) := :- ((px :* qy :- qx :* py) :+ s)) tt (ring_area (q ∷ l)) p.x p.y q.x q.y
  where
    points : reverse (p ∷ q ∷ l) ≡ reverse l ++ q ∷ p ∷ []
    points = reverse-cons p (q ∷ l) ∙ ap (λ r. r ++ p ∷ []) (reverse-cons q l) ∙ append_assoc (reverse l) (q ∷ []) (p ∷ [])

-- ---- what is kept
pub closed_reverse : (r : Ring) → Closed r → Closed (reverse r)
closed_reverse r c = last_reverse r origin ∙ sym c ∙ sym (first_reverse r origin)

pub limits_reverse : (r : Ring) → RingLimits r → RingLimits (reverse r)
limits_reverse r h =
    record { low = omega (arith, length-reverse r, h.low); high = omega (arith, length-reverse r, h.high); closed = closed_reverse r h.closed }

pub edges_length : (r : Ring) → length (edges r) ≡ length r - 1
edges_length [] = refl
edges_length (p ∷ []) = refl
edges_length (p ∷ q ∷ l) = omega (arith, edges_length (q ∷ l))

pub edges_reverse : (r : Ring) → length (edges (reverse r)) ≡ length (edges r)
edges_reverse r = omega (arith, edges_length r, edges_length (reverse r), length-reverse r)
