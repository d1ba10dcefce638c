-- The frame of a table that passes rule A is a rectangle with a width and a height, and the pieces of its four edges are a walk round
-- it that passes each point once.
-- The idea: the pieces of one edge begin ever farther along it, and each edge's beginnings are told from the others' by a coordinate.
-- Assumes nothing.
use mathlib.Core.Path.{◌≡◌, refl, sym, ◌∙◌, subst}
use mathlib.Core.List.{List, [], ◌∷◌, ◌++◌, map, flat_map}
use Prim.Native.Nat.{◌≤◌}
use native.Mathlib.Omega.{arith}
use native.Mathlib.Decide.{dec_le}
use lib.Dec.{T}
use lib.IntN.{ℤ, pos, ◌-ℤ◌, ◌*ℤ◌}
use lib.Signed.{◌<ℤ◌, ◌≤ℤ◌, ≤ℤ_refl, <ℤ_irrefl, <ℤ-≤ℤ_trans}
use Rattle.whole.specs.Sums.{All}
use Rattle.whole.proofs.Int.{ints, *-pos, unscale, unscale_zero, gap_pos, lt_le, ≤-<-trans, ≤_trans, ≤_antisym, smaller_left, smaller_right, greater_left, greater_right, Order, less, equal, more, order}
use Rattle.whole.specs.Polynomials.{con, ◌:+◌, ◌:-◌, ◌:*◌, ◌:=◌}
use Rattle.whole.proofs.Ring.{difference, solve}
use Rattle.whole.proofs.Sums.{all_map, all-++, all_image, counted, bit_yes, bit_no}
use Rattle.plane.specs.Points.{Point, Edge, Triangle, ◌⟶◌, same_point, turn, double}
use Rattle.plane.specs.Cuts.{pieces, all_pieces}
use Rattle.plane.proofs.Points.{same_point-eq, same_point-refl, same_or_other}
use Rattle.plane.proofs.Chains.{Chain, leaves, leaves-++}
use Rattle.plane.proofs.Line.{along, share_x, share_y}
use Rattle.plane.proofs.Cuts.{Piece, pieces_cut}
use Rattle.table.specs.Table.{least, greatest, Frame, frame_of, outline_of}

-- ---- the width and the height of the frame
pub least_all : (k : Point → ℤ) (p : Point) (l : List Point) → All (λ q. least k p l ≤ℤ k q) (p ∷ l)
unfolding least
least_all k p [] = (≤ℤ_refl (k p), tt)
least_all k p (q ∷ l) = (
  smaller_left (k p) (least k q l),
  all_map (λ r. least k q l ≤ℤ k r) (λ r. least k p (q ∷ l) ≤ℤ k r) (λ r h. ≤_trans _ (least k q l) (k r) (smaller_right (k p) (least k q l)) h) (q ∷ l) (least_all k q l),
)

pub greatest_all : (k : Point → ℤ) (p : Point) (l : List Point) → All (λ q. k q ≤ℤ greatest k p l) (p ∷ l)
unfolding greatest
greatest_all k p [] = (≤ℤ_refl (k p), tt)
greatest_all k p (q ∷ l) = (
  greater_left (k p) (greatest k q l),
  all_map (λ r. k r ≤ℤ greatest k q l) (λ r. k r ≤ℤ greatest k p (q ∷ l)) (λ r h. ≤_trans (k r) (greatest k q l) _ h (greater_right (k p) (greatest k q l))) (q ∷ l) (greatest_all k q l),
)

-- Three numbers between two that are the same are the same; a triangle whose corners have one coordinate in common has no area.
module _ (t : Triangle) (area : pos 0 <ℤ double t) where
  upright : t.a.x ≡ t.b.x → t.a.x ≡ t.c.x → ⊥
  unfolding turn
  upright p q = <ℤ_irrefl (subst (λ z. pos 0 <ℤ z) (rw (← p, ← q) (none t.a.x t.a.y t.b.y t.c.y)) area)
    where
      none : (x a b c : ℤ) → (x -ℤ x) *ℤ (c -ℤ a) -ℤ (x -ℤ x) *ℤ (b -ℤ a) ≡ pos 0
      none = solve 4 (λ x a b c. (x :- x) :* (c :- a) :- (x :- x) :* (b :- a) := con (pos 0)) tt

  level : t.a.y ≡ t.b.y → t.a.y ≡ t.c.y → ⊥
  unfolding turn
  level p q = <ℤ_irrefl (subst (λ z. pos 0 <ℤ z) (rw (← p, ← q) (none t.a.y t.a.x t.b.x t.c.x)) area)
    where
      none : (y a b c : ℤ) → (b -ℤ a) *ℤ (y -ℤ y) -ℤ (c -ℤ a) *ℤ (y -ℤ y) ≡ pos 0
      none = solve 4 (λ y a b c. (b :- a) :* (y :- y) :- (c :- a) :* (y :- y) := con (pos 0)) tt

-- Numbers between bounds of which two differ keep the bounds apart.
spread : (low high a b c : ℤ) → (a ≡ b → a ≡ c → ⊥) → (low ≤ℤ a) × (low ≤ℤ b) × (low ≤ℤ c) → (a ≤ℤ high) × (b ≤ℤ high) × (c ≤ℤ high) → low <ℤ high
spread low high a b c n h k = go (order low high)
  where
    pinned : high ≤ℤ low → (z : ℤ) → low ≤ℤ z → z ≤ℤ high → z ≡ low
    pinned e z p q = ≤_antisym z low (≤_trans z high low q e) p

    squeezed : high ≤ℤ low → ⊥
    squeezed e = n (pinned e a h.0 k.0 ∙ sym (pinned e b h.1 k.1)) (pinned e a h.0 k.0 ∙ sym (pinned e c h.2 k.2))

    go : Order low high → low <ℤ high
    go (less l) = l
    go (equal e) = absurd (squeezed (subst (λ z. z ≤ℤ low) e (≤ℤ_refl low)))
    go (more l) = absurd (squeezed (lt_le high low l))

-- The frame of a triangle's corners and further points has a width and a height: a coordinate in which two corners differ has an extent.
module _ (t : Triangle) (area : pos 0 <ℤ double t) (l : List Point) where
  abbrev ps : List Point
  ps = t.b ∷ t.c ∷ l

  extent : (k : Point → ℤ) → (k t.a ≡ k t.b → k t.a ≡ k t.c → ⊥) → least k t.a ps <ℤ greatest k t.a ps
  extent k n =
      let h = least_all k t.a ps in
      let g = greatest_all k t.a ps in
      spread _ _ (k t.a) (k t.b) (k t.c) n (h.0, h.1.0, h.1.1.0) (g.0, g.1.0, g.1.1.0)

  pub width : (frame_of (t.a ∷ ps)).left <ℤ (frame_of (t.a ∷ ps)).right
  unfolding frame_of
  width = extent (λ q. q.x) (upright t area)

  pub height : (frame_of (t.a ∷ ps)).low <ℤ (frame_of (t.a ∷ ps)).high
  unfolding frame_of
  height = extent (λ q. q.y) (level t area)

-- ---- where the pieces of an edge begin
-- One coordinate of a point that has gone the part m of n of the way from u to v, not the whole.
module _ (n m u v w : ℤ) (part : m <ℤ n) (some : pos 0 <ℤ n) (way : n *ℤ (w -ℤ u) ≡ m *ℤ (v -ℤ u)) where
  stays : u ≡ v → w ≡ u
  stays e = difference w u (unscale_zero n (w -ℤ u) some (way ∙ rw (← e) (none m u)))
    where
      none : (m u : ℤ) → m *ℤ (u -ℤ u) ≡ pos 0
      none = solve 2 (λ m u. m :* (u :- u) := con (pos 0)) tt

  short_up : u <ℤ v → w <ℤ v
  short_up h = (gap_pos w v).1 (unscale n (v -ℤ w) some (subst (λ z. pos 0 <ℤ z) (sym rest) (*-pos (n -ℤ m) (v -ℤ u) ((gap_pos m n).0 part) ((gap_pos u v).0 h))))
    where
      rest : n *ℤ (v -ℤ w) ≡ (n -ℤ m) *ℤ (v -ℤ u)
      rest = solve 4 (λ n u v w. n :* (v :- w) := n :* (v :- u) :- n :* (w :- u)) tt n u v w ∙ rw way (solve 4 (λ n m u v. n :* (v :- u) :- m :* (v :- u) := (n :- m) :* (v :- u)) tt n m u v)

  short_down : v <ℤ u → v <ℤ w
  short_down h = (gap_pos v w).1 (unscale n (w -ℤ v) some (subst (λ z. pos 0 <ℤ z) (sym rest) (*-pos (n -ℤ m) (u -ℤ v) ((gap_pos m n).0 part) ((gap_pos v u).0 h))))
    where
      rest : n *ℤ (w -ℤ v) ≡ (n -ℤ m) *ℤ (u -ℤ v)
      rest = solve 4 (λ n u v w. n :* (w :- v) := n :* (w :- u) :+ n :* (u :- v)) tt n u v w ∙ rw way (solve 4 (λ n m u v. m :* (v :- u) :+ n :* (u :- v) := (n :- m) :* (u :- v)) tt n m u v)

-- What a test of the edge's ends says of the beginning of a piece: of one coordinate, told by u, v and w.
pub record Begins (u v w : ℤ) : Type 0 where
  pub stay : u ≡ v → w ≡ u
  pub up : u <ℤ v → w <ℤ v
  pub down : v <ℤ u → v <ℤ w

begins : (cs : List Point) (e p : Edge) → Piece cs e p → Begins e.from.x e.to.x p.from.x × Begins e.from.y e.to.y p.from.y
begins cs e p i =
    let part = <ℤ-≤ℤ_trans i.forward i.before in
    let some = ≤-<-trans (pos 0) (along e p.from) (along e e.to) i.after part in
    (of part some (share_x e p.from i.from_on), of part some (share_y e p.from i.from_on))
  where
    of : {n m u v w : ℤ} → m <ℤ n → pos 0 <ℤ n → n *ℤ (w -ℤ u) ≡ m *ℤ (v -ℤ u) → Begins u v w
    of {n} {m} {u} {v} {w} part some way = record { stay = stays n m u v w part some way; up = short_up n m u v w part some way; down = short_down n m u v w part some way }

-- ---- no point is left twice
absent : (w : Point) (l : List Edge) → All (λ p. p.from ≡ w → ⊥) l → leaves w l ≡ 0
absent w [] h = refl
absent w (x ∷ l) h = omega (arith, absent w l h.1, bit_no (same_point x.from w) (λ t. h.0 (same_point-eq x.from w t)))

module _ (cs : List Point) (e : Edge) where
  later : (b q : Point) (l : List Edge) → Chain b q l → All (Piece cs e) l → All (λ p. along e b ≤ℤ along e p.from) l
  later b q [] h k = tt
  later b q (x ∷ l) h k = (
    subst (λ z. along e b ≤ℤ along e z) (sym h.0) (≤ℤ_refl (along e b)),
    all_map (λ p. along e x.to ≤ℤ along e p.from) (λ p. along e b ≤ℤ along e p.from)
        (λ p i. ≤_trans (along e b) (along e x.to) (along e p.from) (subst (λ z. along e z ≤ℤ along e x.to) h.0 (lt_le _ _ k.0.forward)) i) l (later x.to q l h.1 k.1),
  )

  edge_once : (b q : Point) (l : List Edge) → Chain b q l → All (Piece cs e) l → (w : Point) → leaves w l ≤ 1
  edge_once b q [] h k w = omega arith
  edge_once b q (x ∷ l) h k w = go (same_or_other x.from w) (edge_once x.to q l h.1 k.1 w)
    where
      go : Dec (x.from ≡ w) → leaves w l ≤ 1 → leaves w (x ∷ l) ≤ 1
      go (yes s) r = omega (
        arith,
        bit_yes (same_point x.from w) (subst (λ z. T (same_point x.from z)) s (same_point-refl x.from)),
        absent w l
            (all_map (λ p. along e x.to ≤ℤ along e p.from) (λ p. p.from ≡ w → ⊥)
            (λ p i t. <ℤ_irrefl (<ℤ-≤ℤ_trans k.0.forward (subst (λ z. along e x.to ≤ℤ along e z) (t ∙ sym s) i))) l (later x.to q l h.1 k.1)),
      )
      go (no s) r = omega (arith, bit_no (same_point x.from w) (λ t. s (same_point-eq x.from w t)))

-- Two lists that leave no point twice don't together, if a property tells the beginnings of one from those of the other.
once-++ : (P : Point → Type 0) (l m : List Edge) → All (λ p. P p.from) l → All (λ p. P p.from → ⊥) m
    → ((w : Point) → leaves w l ≤ 1) → ((w : Point) → leaves w m ≤ 1) → (w : Point) → leaves w (l ++ m) ≤ 1
once-++ P l m h k i j w = go (dec_le 1 (leaves w l))
  where
    go : Dec (1 ≤ leaves w l) → leaves w (l ++ m) ≤ 1
    go (yes d) = omega (
      arith,
      leaves-++ w l m,
      i w,
      absent w m
          (all_map (λ p. P p.from → ⊥) (λ p. p.from ≡ w → ⊥)
          (λ p f t. f (subst P (sym t) (counted same_point same_point-eq same_point-refl P w (map (λ e. e.from) l) d (all_image (λ e. e.from) P l h)))) m k),
    )
    go (no d) = omega (arith, leaves-++ w l m, j w)

-- ---- round the rectangle
module _ (cs : List Point) (f : Frame) (wide : f.left <ℤ f.right) (tall : f.low <ℤ f.high) where
  abbrev e₁ : Edge
  e₁ = record { x = f.left; y = f.low } ⟶ record { x = f.right; y = f.low }

  abbrev e₂ : Edge
  e₂ = record { x = f.right; y = f.low } ⟶ record { x = f.right; y = f.high }

  abbrev e₃ : Edge
  e₃ = record { x = f.right; y = f.high } ⟶ record { x = f.left; y = f.high }

  abbrev e₄ : Edge
  e₄ = record { x = f.left; y = f.high } ⟶ record { x = f.left; y = f.low }

  -- Where the pieces of each edge begin.
  abbrev On₁ : Point → Type 0
  On₁ w = (w.y ≡ f.low) × (w.x <ℤ f.right)

  abbrev On₂ : Point → Type 0
  On₂ w = (w.x ≡ f.right) × (w.y <ℤ f.high)

  abbrev On₃ : Point → Type 0
  On₃ w = (w.y ≡ f.high) × (f.left <ℤ w.x)

  abbrev On₄ : Point → Type 0
  On₄ w = (w.x ≡ f.left) × (f.low <ℤ w.y)

  at : (P : Point → Type 0) (e : Edge) → ((p : Edge) → Piece cs e p → P p.from) → All (λ p. P p.from) (pieces cs e)
  at P e k = all_map (Piece cs e) (λ p. P p.from) k (pieces cs e) (pieces_cut cs e).onwards

  at₁ : (P : Point → Type 0) → ((w : Point) → On₁ w → P w) → All (λ p. P p.from) (pieces cs e₁)
  at₁ P k = at P e₁ (λ p i. k p.from ((begins cs e₁ p i).1.stay refl, (begins cs e₁ p i).0.up wide))

  at₂ : (P : Point → Type 0) → ((w : Point) → On₂ w → P w) → All (λ p. P p.from) (pieces cs e₂)
  at₂ P k = at P e₂ (λ p i. k p.from ((begins cs e₂ p i).0.stay refl, (begins cs e₂ p i).1.up tall))

  at₃ : (P : Point → Type 0) → ((w : Point) → On₃ w → P w) → All (λ p. P p.from) (pieces cs e₃)
  at₃ P k = at P e₃ (λ p i. k p.from ((begins cs e₃ p i).1.stay refl, (begins cs e₃ p i).0.down wide))

  at₄ : (P : Point → Type 0) → ((w : Point) → On₄ w → P w) → All (λ p. P p.from) (pieces cs e₄)
  at₄ P k = at P e₄ (λ p i. k p.from ((begins cs e₄ p i).0.stay refl, (begins cs e₄ p i).1.down tall))

  one : (e : Edge) → (w : Point) → leaves w (pieces cs e) ≤ 1
  one e = edge_once cs e e.from e.to (pieces cs e) (pieces_cut cs e).joined (pieces_cut cs e).onwards

  pub rectangle_once : (w : Point) → leaves w (all_pieces cs (outline_of f)) ≤ 1
  unfolding flat_map
  rectangle_once =
      once-++ On₁ (pieces cs e₁) _ (at₁ On₁ (λ w h. h))
      (all-++ (λ p. On₁ p.from → ⊥) (pieces cs e₂) _ (at₂ (λ w. On₁ w → ⊥) (λ w h k. omega (arith, ints)))
      (all-++ (λ p. On₁ p.from → ⊥) (pieces cs e₃) _ (at₃ (λ w. On₁ w → ⊥) (λ w h k. omega (arith, ints)))
      (all-++ (λ p. On₁ p.from → ⊥) (pieces cs e₄) [] (at₄ (λ w. On₁ w → ⊥) (λ w h k. omega (arith, ints))) tt)))
      (one e₁)
      (once-++ On₂ (pieces cs e₂) _ (at₂ On₂ (λ w h. h))
      (all-++ (λ p. On₂ p.from → ⊥) (pieces cs e₃) _ (at₃ (λ w. On₂ w → ⊥) (λ w h k. omega (arith, ints)))
      (all-++ (λ p. On₂ p.from → ⊥) (pieces cs e₄) [] (at₄ (λ w. On₂ w → ⊥) (λ w h k. omega (arith, ints))) tt))
      (one e₂)
      (once-++ On₃ (pieces cs e₃) _ (at₃ On₃ (λ w h. h))
      (all-++ (λ p. On₃ p.from → ⊥) (pieces cs e₄) [] (at₄ (λ w. On₃ w → ⊥) (λ w h k. omega (arith, ints))) tt)
      (one e₃)
      (once-++ On₄ (pieces cs e₄) [] (at₄ On₄ (λ w h. h)) tt (one e₄) (λ w. omega arith))))
