-- What `between` means: c is strictly between p and q on the straight line exactly if p and q differ and c is p and a proper part of
-- the way from p to q, c = p + m/n·(q - p) with 0 < m < n.
-- The idea: the part is how far c lies along the edge, of how far q does. Assumes nothing.
use mathlib.Core.Path.{◌≡◌, sym, ◌∙◌, subst}
use mathlib.Core.Logic.{◌↔◌}
use native.Mathlib.Omega.{arith}
use lib.Dec.{T}
use lib.IntN.{ℤ, pos, neg_ℤ, ◌+ℤ◌, ◌-ℤ◌, ◌*ℤ◌}
use lib.Signed.{◌<ℤ◌, <ℤ_irrefl, <ℤ-≤ℤ_trans}
use Rattle.whole.proofs.Int.{zify, ints, parts, *-pos, unscale, unscale_zero, squares, gap_pos, lt_le}
use Rattle.whole.specs.Polynomials.{con, ◌:+◌, ◌:-◌, ◌:*◌, :-◌, ◌:=◌}
use Rattle.whole.proofs.Ring.{solve}
use Rattle.plane.specs.Points.{Point, Edge, ◌⟶◌, turn, onward, between}
use Rattle.plane.proofs.Points.{turnₑ, onwardₑ, between_onward, between_intro}
use Rattle.plane.proofs.Line.{along, on_from, on_to, along_from, long, share_x, share_y, inner_on, inner_order}

-- c is the edge's first point and the part m of n of the way to its second, more than nothing and less than all.
pub record Inside (c : Point) (e : Edge) : Type 0 where
  pub m : ℤ
  pub n : ℤ
  pub some : pos 0 <ℤ m
  pub rest : m <ℤ n
  pub across : n *ℤ (c.x -ℤ e.from.x) ≡ m *ℤ (e.to.x -ℤ e.from.x)
  pub upward : n *ℤ (c.y -ℤ e.from.y) ≡ m *ℤ (e.to.y -ℤ e.from.y)

-- No point is strictly between a point and itself.
nowhere : (u c : Point) → T (between c (u ⟶ u)) → ⊥
unfolding onward
nowhere u c t = clash _ (squares (c.x -ℤ u.x) (c.y -ℤ u.y) (λ p q. <ℤ_irrefl (subst (λ z. pos 0 <ℤ z) (out c.x u.x c.y u.y ∙ rw (p, q)) h))) (subst (λ z. pos 0 <ℤ z) (out c.x u.x c.y u.y) h)
  where
    h : pos 0 <ℤ onward u c u
    h = between_onward c (u ⟶ u) t

    out : (cx ux cy uy : ℤ) → (cx -ℤ ux) *ℤ (ux -ℤ cx) +ℤ (cy -ℤ uy) *ℤ (uy -ℤ cy) ≡ neg_ℤ ((cx -ℤ ux) *ℤ (cx -ℤ ux) +ℤ (cy -ℤ uy) *ℤ (cy -ℤ uy))
    out = solve 4 (λ cx ux cy uy. (cx :- ux) :* (ux :- cx) :+ (cy :- uy) :* (uy :- cy) := :- ((cx :- ux) :* (cx :- ux) :+ (cy :- uy) :* (cy :- uy))) tt

    clash : (z : ℤ) → pos 0 <ℤ z → pos 0 <ℤ neg_ℤ z → ⊥
    clash z h k = omega (arith, ints, simp zify at (rw (parts z) at k))

inside : (c : Point) (e : Edge) → (e.from ≡ e.to → ⊥) → T (between c e) → Inside c e
inside c e n t =
    let l = long e n in
    let ordered : along e e.from <ℤ along e e.to = rw along_from l in
    let on = inner_on e l e.from e.to (on_from e) (on_to e) ordered c t in
    let o = inner_order e l e.from e.to (on_from e) (on_to e) ordered c t in
    record { m = along e c; n = along e e.to; some = rw along_from at o.0; rest = o.1; across = share_x e c on; upward = share_y e c on }

module _ (c : Point) (e : Edge) (apart : e.from ≡ e.to → ⊥) (i : Inside c e) where
  dx : ℤ
  dx = e.to.x -ℤ e.from.x

  dy : ℤ
  dy = e.to.y -ℤ e.from.y

  whole : pos 0 <ℤ i.n
  whole = <ℤ-≤ℤ_trans i.some (lt_le i.m i.n i.rest)

  level : i.n *ℤ turn e.from c e.to ≡ pos 0
  unfolding turn
  level =
      solve 7 (λ n ux uy cx cy vx vy. n :* turnₑ ux uy cx cy vx vy := (n :* (cx :- ux)) :* (vy :- uy) :- (vx :- ux) :* (n :* (cy :- uy))) tt i.n e.from.x e.from.y c.x c.y e.to.x e.to.y
      ∙ rw (i.across, i.upward) (solve 3 (λ m x y. (m :* x) :* y :- x :* (m :* y) := con (pos 0)) tt i.m (e.to.x -ℤ e.from.x) (e.to.y -ℤ e.from.y))

  ahead : i.n *ℤ (i.n *ℤ onward e.from c e.to) ≡ (i.m *ℤ (i.n -ℤ i.m)) *ℤ (dx *ℤ dx +ℤ dy *ℤ dy)
  unfolding onward dx dy
  ahead =
      solve 7 (λ n ux uy cx cy vx vy. n :* (n :* onwardₑ ux uy cx cy vx vy)
      := (n :* (cx :- ux)) :* (n :* (vx :- ux) :- n :* (cx :- ux)) :+ (n :* (cy :- uy)) :* (n :* (vy :- uy) :- n :* (cy :- uy))) tt i.n e.from.x e.from.y c.x c.y e.to.x e.to.y
      ∙ rw (i.across, i.upward)
      (solve 4 (λ m n x y. (m :* x) :* (n :* x :- m :* x) :+ (m :* y) :* (n :* y :- m :* y) := (m :* (n :- m)) :* (x :* x :+ y :* y)) tt i.m i.n (e.to.x -ℤ e.from.x) (e.to.y -ℤ e.from.y))

  outside_in : T (between c e)
  unfolding dx dy along
  outside_in = between_intro c e (unscale_zero i.n (turn e.from c e.to) whole level)
      (unscale i.n (onward e.from c e.to) whole (unscale i.n (i.n *ℤ onward e.from c e.to) whole
      (subst (λ z. pos 0 <ℤ z) (sym ahead) (*-pos _ _ (*-pos i.m (i.n -ℤ i.m) i.some ((gap_pos i.m i.n).0 i.rest)) (long e apart)))))

pub between_means : (c : Point) (e : Edge) → T (between c e) ↔ ((e.from ≡ e.to → ⊥) × Inside c e)
between_means c e = (λ t. let n = apart t in (n, inside c e n t), λ h. outside_in c e h.0 h.1)
  where
    apart : T (between c e) → e.from ≡ e.to → ⊥
    apart t q = nowhere e.from c (subst (λ z. T (between c (e.from ⟶ z))) (sym q) t)
