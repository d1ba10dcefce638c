-- Points on the straight line of an edge, put in order by one number.
-- The idea: `along e c` is the way from the edge's first point to c times the edge's own way, as vectors. On the line of an edge that
-- has a length, being between is an order of these numbers, and equal numbers mean equal points. Assumes nothing.
use mathlib.Core.Path.{◌≡◌, sym, ◌∙◌, ap, subst}
use lib.Dec.{T}
use lib.IntN.{ℤ, pos, ◌+ℤ◌, ◌-ℤ◌, ◌*ℤ◌, *ℤ-zero}
use lib.Signed.{◌<ℤ◌}
use Rattle.whole.proofs.Int.{*-pos, unscale, unscale_zero, both_pos, squares, gap_pos}
use Rattle.whole.specs.Polynomials.{Expr, con, ◌:+◌, ◌:-◌, ◌:*◌, :-◌, ◌:=◌}
use Rattle.whole.proofs.Ring.{solve, difference}
use Rattle.plane.specs.Points.{Point, Edge, ◌⟶◌, turn, onward, between}
use Rattle.plane.proofs.Points.{point_eq, turnₑ, onwardₑ, between_line, between_onward, between_intro}

-- How far c lies along the edge.
unfoldable pub along : Edge → Point → ℤ
along e c = (c.x -ℤ e.from.x) *ℤ (e.to.x -ℤ e.from.x) +ℤ (c.y -ℤ e.from.y) *ℤ (e.to.y -ℤ e.from.y)

abbrev alongₑ : (ux uy vx vy cx cy : Expr) → Expr
alongₑ ux uy vx vy cx cy = (cx :- ux) :* (vx :- ux) :+ (cy :- uy) :* (vy :- uy)

-- c lies on the straight line of the edge.
abbrev pub On : Edge → Point → Type 0
On e c = turn e.from c e.to ≡ pos 0

pub on_from : (e : Edge) → On e e.from
unfolding turn
on_from e = solve 4 (λ ux uy vx vy. turnₑ ux uy ux uy vx vy := con (pos 0)) tt e.from.x e.from.y e.to.x e.to.y

pub on_to : (e : Edge) → On e e.to
unfolding turn
on_to e = solve 4 (λ ux uy vx vy. turnₑ ux uy vx vy vx vy := con (pos 0)) tt e.from.x e.from.y e.to.x e.to.y

pub along_from : (e : Edge) → along e e.from ≡ pos 0
unfolding along
along_from e = solve 4 (λ ux uy vx vy. alongₑ ux uy vx vy ux uy := con (pos 0)) tt e.from.x e.from.y e.to.x e.to.y

-- Only an edge of no length has no way along it.
pub long : (e : Edge) → (e.from ≡ e.to → ⊥) → pos 0 <ℤ along e e.to
unfolding along
long e h = squares (e.to.x -ℤ e.from.x) (e.to.y -ℤ e.from.y)
    (λ p q. h (point_eq (sym (difference e.to.x e.from.x p)) (sym (difference e.to.y e.from.y q))))

-- ---- the identities: everything along the edge, and across it
module _ (e : Edge) (a b c : Point) where
  abbrev t : Point → ℤ
  t p = turn e.from p e.to

  onward_is : along e e.to *ℤ onward a b c
      ≡ (along e b -ℤ along e a) *ℤ (along e c -ℤ along e b) +ℤ (t b -ℤ t a) *ℤ (t c -ℤ t b)
  unfolding along onward turn
  onward_is = solve 10 (λ ux uy vx vy ax ay bx by cx cy. alongₑ ux uy vx vy vx vy :* onwardₑ ax ay bx by cx cy
      := (alongₑ ux uy vx vy bx by :- alongₑ ux uy vx vy ax ay) :* (alongₑ ux uy vx vy cx cy :- alongₑ ux uy vx vy bx by)
      :+ (turnₑ ux uy bx by vx vy :- turnₑ ux uy ax ay vx vy) :* (turnₑ ux uy cx cy vx vy :- turnₑ ux uy bx by vx vy)) tt
      e.from.x e.from.y e.to.x e.to.y a.x a.y b.x b.y c.x c.y

  turn_is : along e e.to *ℤ turn a b c
      ≡ (t b -ℤ t a) *ℤ (along e c -ℤ along e a) -ℤ (along e b -ℤ along e a) *ℤ (t c -ℤ t a)
  unfolding along turn
  turn_is = solve 10 (λ ux uy vx vy ax ay bx by cx cy. alongₑ ux uy vx vy vx vy :* turnₑ ax ay bx by cx cy
      := (turnₑ ux uy bx by vx vy :- turnₑ ux uy ax ay vx vy) :* (alongₑ ux uy vx vy cx cy :- alongₑ ux uy vx vy ax ay)
      :- (alongₑ ux uy vx vy bx by :- alongₑ ux uy vx vy ax ay) :* (turnₑ ux uy cx cy vx vy :- turnₑ ux uy ax ay vx vy)) tt
      e.from.x e.from.y e.to.x e.to.y a.x a.y b.x b.y c.x c.y

  across_x : along e e.to *ℤ (b.x -ℤ a.x) ≡ (along e b -ℤ along e a) *ℤ (e.to.x -ℤ e.from.x) +ℤ (t b -ℤ t a) *ℤ (e.to.y -ℤ e.from.y)
  unfolding along turn
  across_x = solve 8 (λ ux uy vx vy ax ay bx by. alongₑ ux uy vx vy vx vy :* (bx :- ax)
      := (alongₑ ux uy vx vy bx by :- alongₑ ux uy vx vy ax ay) :* (vx :- ux) :+ (turnₑ ux uy bx by vx vy :- turnₑ ux uy ax ay vx vy) :* (vy :- uy)) tt
      e.from.x e.from.y e.to.x e.to.y a.x a.y b.x b.y

  across_y : along e e.to *ℤ (b.y -ℤ a.y) ≡ (along e b -ℤ along e a) *ℤ (e.to.y -ℤ e.from.y) -ℤ (t b -ℤ t a) *ℤ (e.to.x -ℤ e.from.x)
  unfolding along turn
  across_y = solve 8 (λ ux uy vx vy ax ay bx by. alongₑ ux uy vx vy vx vy :* (by :- ay)
      := (alongₑ ux uy vx vy bx by :- alongₑ ux uy vx vy ax ay) :* (vy :- uy) :- (turnₑ ux uy bx by vx vy :- turnₑ ux uy ax ay vx vy) :* (vx :- ux)) tt
      e.from.x e.from.y e.to.x e.to.y a.x a.y b.x b.y

-- A point of the line is the edge's first point and its share of the way.
pub share_x : (e : Edge) (c : Point) → On e c → along e e.to *ℤ (c.x -ℤ e.from.x) ≡ along e c *ℤ (e.to.x -ℤ e.from.x)
share_x e c p = across_x e e.from c c ∙ rw (p, on_from e, along_from e) (clear (along e c) (e.to.x -ℤ e.from.x) (e.to.y -ℤ e.from.y))
  where
    clear : (m x y : ℤ) → (m -ℤ pos 0) *ℤ x +ℤ (pos 0 -ℤ pos 0) *ℤ y ≡ m *ℤ x
    clear = solve 3 (λ m x y. (m :- con (pos 0)) :* x :+ (con (pos 0) :- con (pos 0)) :* y := m :* x) tt

pub share_y : (e : Edge) (c : Point) → On e c → along e e.to *ℤ (c.y -ℤ e.from.y) ≡ along e c *ℤ (e.to.y -ℤ e.from.y)
share_y e c p = across_y e e.from c c ∙ rw (p, on_from e, along_from e) (clear (along e c) (e.to.y -ℤ e.from.y) (e.to.x -ℤ e.from.x))
  where
    clear : (m x y : ℤ) → (m -ℤ pos 0) *ℤ x -ℤ (pos 0 -ℤ pos 0) *ℤ y ≡ m *ℤ x
    clear = solve 3 (λ m x y. (m :- con (pos 0)) :* x :- (con (pos 0) :- con (pos 0)) :* y := m :* x) tt

-- ---- on the line of an edge that has a length
module _ (e : Edge) (length : pos 0 <ℤ along e e.to) where
  -- Equal numbers, equal points.
  pub equal_on : (a b : Point) → On e a → On e b → along e a ≡ along e b → a ≡ b
  equal_on a b p q h = sym (point_eq
      (difference b.x a.x (unscale_zero (along e e.to) (b.x -ℤ a.x) length (across_x e a b a ∙ rw (p, q, h) (zero_sum (along e b) (e.to.x -ℤ e.from.x) (e.to.y -ℤ e.from.y)))))
      (difference b.y a.y (unscale_zero (along e e.to) (b.y -ℤ a.y) length (across_y e a b a ∙ rw (p, q, h) (zero_gap (along e b) (e.to.y -ℤ e.from.y) (e.to.x -ℤ e.from.x))))))
    where
      zero_sum : (m x y : ℤ) → (m -ℤ m) *ℤ x +ℤ (pos 0 -ℤ pos 0) *ℤ y ≡ pos 0
      zero_sum = solve 3 (λ m x y. (m :- m) :* x :+ (con (pos 0) :- con (pos 0)) :* y := con (pos 0)) tt

      zero_gap : (m x y : ℤ) → (m -ℤ m) *ℤ x -ℤ (pos 0 -ℤ pos 0) *ℤ y ≡ pos 0
      zero_gap = solve 3 (λ m x y. (m :- m) :* x :- (con (pos 0) :- con (pos 0)) :* y := con (pos 0)) tt

  -- A point strictly between two points of the line, the first before the second, is on the line and between them in number,
  module _ (a b : Point) (on-a : On e a) (on-b : On e b) (ordered : along e a <ℤ along e b) (c : Point) where
    pub inner_on : T (between c (a ⟶ b)) → On e c
    inner_on h = unscale_zero (along e b -ℤ along e a) (turn e.from c e.to) ((gap_pos (along e a) (along e b)).0 ordered)
        (sym (zero_out (turn e.from c e.to) (along e b) (along e a) (along e c)) ∙ sym line)
      where
        line : pos 0 ≡ (turn e.from c e.to -ℤ pos 0) *ℤ (along e b -ℤ along e a) -ℤ (along e c -ℤ along e a) *ℤ (pos 0 -ℤ pos 0)
        line = sym (*ℤ-zero (along e e.to)) ∙ ap (λ z. along e e.to *ℤ z) (sym (between_line c (a ⟶ b) h)) ∙ turn_is e a c b ∙ rw (on-a, on-b)

        zero_out : (z m n k : ℤ) → (z -ℤ pos 0) *ℤ (m -ℤ n) -ℤ (k -ℤ n) *ℤ (pos 0 -ℤ pos 0) ≡ (m -ℤ n) *ℤ z
        zero_out = solve 4 (λ z m n k. (z :- con (pos 0)) :* (m :- n) :- (k :- n) :* (con (pos 0) :- con (pos 0)) := (m :- n) :* z) tt

    onward_on : On e c → along e e.to *ℤ onward a c b ≡ (along e c -ℤ along e a) *ℤ (along e b -ℤ along e c)
    onward_on p = onward_is e a c b ∙ rw (on-a, on-b, p) (zero_out ((along e c -ℤ along e a) *ℤ (along e b -ℤ along e c)))
      where
        zero_out : (z : ℤ) → z +ℤ (pos 0 -ℤ pos 0) *ℤ (pos 0 -ℤ pos 0) ≡ z
        zero_out = solve 1 (λ z. z :+ (con (pos 0) :- con (pos 0)) :* (con (pos 0) :- con (pos 0)) := z) tt

    pub inner_order : T (between c (a ⟶ b)) → (along e a <ℤ along e c) × (along e c <ℤ along e b)
    inner_order h =
        let both = both_pos (along e c -ℤ along e a) (along e b -ℤ along e c)
        (subst (λ z. pos 0 <ℤ z) (onward_on (inner_on h)) (*-pos (along e e.to) (onward a c b) length (between_onward c (a ⟶ b) h)))
        (subst (λ z. pos 0 <ℤ z) (sym (through (along e a) (along e c) (along e b))) ((gap_pos (along e a) (along e b)).0 ordered)) in
        ((gap_pos (along e a) (along e c)).1 both.0, (gap_pos (along e c) (along e b)).1 both.1)
      where
        through : (z m n : ℤ) → (m -ℤ z) +ℤ (n -ℤ m) ≡ n -ℤ z
        through = solve 3 (λ z m n. (m :- z) :+ (n :- m) := n :- z) tt

    -- and the other way round.
    pub inner_intro : On e c → along e a <ℤ along e c → along e c <ℤ along e b → T (between c (a ⟶ b))
    inner_intro p h k = between_intro c (a ⟶ b)
        (unscale_zero (along e e.to) (turn a c b) length (turn_is e a c b ∙ rw (on-a, on-b, p) (zero_out (along e b -ℤ along e a) (along e c -ℤ along e a))))
        (unscale (along e e.to) (onward a c b) length (subst (λ z. pos 0 <ℤ z) (sym (onward_on p))
        (*-pos (along e c -ℤ along e a) (along e b -ℤ along e c) ((gap_pos (along e a) (along e c)).0 h) ((gap_pos (along e c) (along e b)).0 k))))
      where
        zero_out : (m n : ℤ) → (pos 0 -ℤ pos 0) *ℤ m -ℤ n *ℤ (pos 0 -ℤ pos 0) ≡ pos 0
        zero_out = solve 2 (λ m n. (con (pos 0) :- con (pos 0)) :* m :- n :* (con (pos 0) :- con (pos 0)) := con (pos 0)) tt
