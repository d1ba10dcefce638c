-- The length of an edge is at least 1 unless its ends are one point, as are those of no triangle with a double area above 0; it is
-- small where the coordinates are. Assumes nothing.
use mathlib.Core.Path.{◌≡◌, refl, ◌∙◌, ap, ap₂, subst}
use mathlib.Core.List.{List, [], ◌∷◌, flat_map}
use Prim.Native.Nat.{ℕ, zero, suc, ◌+◌, ◌*◌, ◌≤◌}
use native.Mathlib.Omega.{arith}
use native.Mathlib.Nat.{mul-le-mul}
use lib.IntN.{ℤ, pos, negsuc, nat_abs, ◌-ℤ◌, ◌*ℤ◌}
use lib.Signed.{◌<ℤ◌, <ℤ_irrefl}
use Rattle.whole.specs.Sums.{All}
use Rattle.whole.specs.Polynomials.{con, ◌:-◌, ◌:*◌, ◌:=◌}
use Rattle.whole.proofs.Ring.{solve}
use Rattle.whole_root.proofs.OnlyRoot.{root_some, root_below}
use Rattle.plane.specs.Points.{Point, Edge, ◌⟶◌, Triangle, turn, double}
use Rattle.plane_lengths.specs.Lengths.{dx, dy, length_of, lengths_of}

-- ---- how long an edge is at most, and at least
pub square_most : (d m : ℕ) → d ≤ m → d * d ≤ m * m
square_most d m h = mul-le-mul h h

pub length_most : (e : Edge) → dx e ≤ 20_000_000 → dy e ≤ 20_000_000 → length_of e ≤ 28_284_271
unfolding length_of
length_most e h k =
    let r = root_below (dx e * dx e + dy e * dy e) 28_284_272 (omega (arith, square_most (dx e) 20_000_000 h, square_most (dy e) 20_000_000 k)) in
    omega (arith, r)

some_square : (d : ℕ) → 1 ≤ d → 1 ≤ d * d
some_square (suc d) h = omega arith
some_square zero h = elim h [ ]

-- It is at least 1 unless the ends are one point.
pub length_some : (e : Edge) → (dx e ≡ 0 → dy e ≡ 0 → ⊥) → 1 ≤ length_of e
unfolding length_of
length_some e h = root_some (dx e * dx e + dy e * dy e) (go (dx e) (dy e) h)
  where
    go : (a b : ℕ) → (a ≡ 0 → b ≡ 0 → ⊥) → 1 ≤ a * a + b * b
    go zero zero f = absurd (f refl refl)
    go zero (suc b) f = omega (arith, some_square (suc b) (omega arith))
    go (suc a) b f = omega (arith, some_square (suc a) (omega arith))

-- ---- the sides of a triangle with a double area
-- Where a and b are one point, the three lie on a straight line.
flat : (a b c : Point) → dx (a ⟶ b) ≡ 0 → dy (a ⟶ b) ≡ 0 → turn a b c ≡ pos 0
unfolding turn
flat a b c p q =
    let x = none (b.x -ℤ a.x) p in
    let y = none (b.y -ℤ a.y) q in
    ap₂ (λ u v. u *ℤ (c.y -ℤ a.y) -ℤ (c.x -ℤ a.x) *ℤ v) x y ∙ solve 2 (λ s t. con (pos 0) :* s :- t :* con (pos 0) := con (pos 0)) tt (c.y -ℤ a.y) (c.x -ℤ a.x)
  where
    none : (z : ℤ) → nat_abs z ≡ 0 → z ≡ pos 0
    none (pos n) e = ap pos e
    none (negsuc n) e = absurd (omega arith)

-- The double area is the same from each corner on.
turn_on : (a b c : Point) → turn a b c ≡ turn b c a
unfolding turn
turn_on a b c =
    solve 6 (λ ax ay bx by cx cy. (bx :- ax) :* (cy :- ay) :- (cx :- ax) :* (by :- ay) := (cx :- bx) :* (ay :- by) :- (ax :- bx) :* (cy :- by)) tt a.x a.y b.x b.y c.x c.y

-- Its first side is at least 1 long,
first_side : (a b c : Point) → pos 0 <ℤ turn a b c → 1 ≤ length_of (a ⟶ b)
first_side a b c h = length_some (a ⟶ b) (λ p q. <ℤ_irrefl (subst (λ z. pos 0 <ℤ z) (flat a b c p q) h))

-- and so is each side of a table that passes rule A.
pub sides_some : (table : List Triangle) → All (λ t. pos 0 <ℤ double t) table → All (λ n. 1 ≤ n) (lengths_of table)
unfolding flat_map
sides_some [] h = tt
sides_some (t ∷ table) (h, rest) =
    let k = subst (λ z. pos 0 <ℤ z) (turn_on t.a t.b t.c) h in
    let l = subst (λ z. pos 0 <ℤ z) (turn_on t.b t.c t.a) k in
    (first_side t.a t.b t.c h, (first_side t.b t.c t.a k, (first_side t.c t.a t.b l, sides_some table rest)))
