-- Equality of points and ordered pairs, and the expressions by which the ring solver speaks of turns. Assumes nothing.
use mathlib.Core.Path.{◌≡◌, refl}
use mathlib.Core.Bool.{Bool, true, false, ◌&&◌}
use lib.Dec.{T}
use lib.IntN.{pos}
use lib.Signed.{lt_z, ◌<ℤ◌, lt_z_yes}
use Rattle.whole.specs.Numbers.{eq_z}
use Rattle.whole.proofs.Int.{eq_z-eq, eq_z-refl}
use Rattle.whole.specs.Polynomials.{Expr, ◌:+◌, ◌:-◌, ◌:*◌}
use Rattle.whole.proofs.Sums.{and_left, and_right, and_both, same_or_not}
use Rattle.plane.specs.Points.{Point, Edge, ◌⟶◌, same_point, same_edge, turn, onward, between}

pub point_eq : {p q : Point} → p.x ≡ q.x → p.y ≡ q.y → p ≡ q
point_eq e f = λ i. record { x = e i; y = f i }

pub same_point-eq : (p q : Point) → T (same_point p q) → p ≡ q
same_point-eq p q t =
    point_eq (eq_z-eq p.x q.x (and_left (eq_z p.x q.x) (eq_z p.y q.y) t)) (eq_z-eq p.y q.y (and_right (eq_z p.x q.x) (eq_z p.y q.y) t))

pub same_point-refl : (p : Point) → T (same_point p p)
same_point-refl p = and_both (eq_z p.x p.x) (eq_z p.y p.y) (eq_z-refl p.x) (eq_z-refl p.y)

pub same_edge-eq : (d e : Edge) → T (same_edge d e) → d ≡ e
same_edge-eq d e t =
    let p = same_point-eq d.from e.from (and_left (same_point d.from e.from) (same_point d.to e.to) t) in
    let q = same_point-eq d.to e.to (and_right (same_point d.from e.from) (same_point d.to e.to) t) in
    λ i. p i ⟶ q i

pub same_edge-refl : (e : Edge) → T (same_edge e e)
same_edge-refl e = and_both (same_point e.from e.from) (same_point e.to e.to) (same_point-refl e.from) (same_point-refl e.to)

pub same_or_other : (p q : Point) → Dec (p ≡ q)
same_or_other = same_or_not same_point same_point-eq same_point-refl

-- `turn` and `onward` as expressions of the solver.
abbrev pub turnₑ : (ax ay bx by cx cy : Expr) → Expr
turnₑ ax ay bx by cx cy = (bx :- ax) :* (cy :- ay) :- (cx :- ax) :* (by :- ay)

abbrev pub onwardₑ : (px py cx cy qx qy : Expr) → Expr
onwardₑ px py cx cy qx qy = (cx :- px) :* (qx :- cx) :+ (cy :- py) :* (qy :- cy)

-- What "strictly between" says, and how it is shown.
pub between_line : (c : Point) (e : Edge) → T (between c e) → turn e.from c e.to ≡ pos 0
unfolding between
between_line c e t = eq_z-eq (turn e.from c e.to) (pos 0) (and_left (eq_z (turn e.from c e.to) (pos 0)) (lt_z (pos 0) (onward e.from c e.to)) t)

pub between_onward : (c : Point) (e : Edge) → T (between c e) → pos 0 <ℤ onward e.from c e.to
unfolding between
between_onward c e t = lt_z_yes (and_right (eq_z (turn e.from c e.to) (pos 0)) (lt_z (pos 0) (onward e.from c e.to)) t)

pub between_intro : (c : Point) (e : Edge) → turn e.from c e.to ≡ pos 0 → pos 0 <ℤ onward e.from c e.to → T (between c e)
unfolding between
between_intro c e p h = rw p h.lt

pub between_off : (c : Point) (e : Edge) → (turn e.from c e.to ≡ pos 0 → ⊥) → between c e ≡ false
unfolding between
between_off c e h = go (eq_z (turn e.from c e.to) (pos 0)) (λ t. h (eq_z-eq (turn e.from c e.to) (pos 0) t))
  where
    go : (b : Bool) → (T b → ⊥) → (b && lt_z (pos 0) (onward e.from c e.to)) ≡ false
    go true f = absurd (f tt)
    go false f = refl

pub between_on : (c : Point) (e : Edge) → turn e.from c e.to ≡ pos 0 → between c e ≡ lt_z (pos 0) (onward e.from c e.to)
unfolding between
between_on c e h = rw h
