-- A side of the table that has no reverse lies on the frame: every corner of the table is to its left or on its line.
-- The idea: by rule C it is a piece of a frame edge; the frame edges have this property, and cutting keeps it. Assumes nothing.
use mathlib.Core.Path.{◌≡◌, refl, sym, ◌∙◌, ap, subst}
use mathlib.Core.Bool.{false}
use mathlib.Core.List.{List, [], ◌∷◌, flat_map}
use native.Mathlib.Omega.{arith}
use lib.IntN.{ℤ, pos, ◌-ℤ◌, ◌*ℤ◌}
use lib.Signed.{◌≤ℤ◌, ◌<ℤ◌}
use Rattle.whole.specs.Sums.{All, Among, count, net}
use Rattle.whole.proofs.Int.{zify, ints, parts, gap_pos}
use Rattle.whole.proofs.Tests.{by_test}
use Rattle.whole.specs.Polynomials.{◌:-◌, ◌:*◌, :-◌, ◌:=◌}
use Rattle.whole.proofs.Ring.{solve}
use Rattle.whole.proofs.Sums.{all-flat_map, all_map, counted}
use Rattle.plane.specs.Points.{Point, Edge, Triangle, flip, turn, same_point, same_edge, between}
use Rattle.plane.specs.Cuts.{halves, cut, pieces, all_pieces}
use Rattle.plane.specs.Boundaries.{sides_of}
use Rattle.plane.proofs.Points.{turnₑ, between_line, between_onward, same_edge-eq, same_edge-refl}
use Rattle.table.specs.Table.{corners, Frame, frame_of, outline_of, frame_edges, RuleA, RuleC}
use Rattle.table.proofs.Frame.{width, height, least_all, greatest_all}
use Rattle.whole_signs.proofs.Signs.{Sign, minus, null, plus, sign, is_minus, ◌⊗◌, Has, has, has_only, sign-*}
use Rattle.plane_winding.proofs.Winding.{second_sign, whole_sign}

-- q is not to the right of e.
abbrev pub NotRight : Point → Edge → Type 0
NotRight q e = is_minus (sign (turn e.from e.to q)) ≡ false

-- ---- cutting keeps it
halves_keep : (q c : Point) (e : Edge) → NotRight q e → All (NotRight q) (halves c e)
unfolding halves
halves_keep q c e h = by_test (All (NotRight q)) (between c e) _ _
    (λ t. let on = between_line c e t in let ahd = between_onward c e t in
    let first = subst (λ s. is_minus s ≡ false) (whole_sign e.from c e.to on ahd q) h in
    (first, (subst (λ s. is_minus s ≡ false) (sym (second_sign e.from c e.to on ahd q)) first, tt)))
    (λ t. (h, tt))

cut_keep : (q : Point) (cs : List Point) (e : Edge) → NotRight q e → All (NotRight q) (cut cs e)
unfolding cut
cut_keep q [] e h = (h, tt)
cut_keep q (c ∷ cs) e h = all-flat_map (NotRight q) (NotRight q) (halves c) (halves_keep q c) (cut cs e) (cut_keep q cs e h)

pieces_keep : (q : Point) (cs : List Point) (e : Edge) → NotRight q e → All (NotRight q) (pieces cs e)
unfolding pieces
pieces_keep q cs e h = by_test (All (NotRight q)) (same_point e.from e.to) _ _ (λ t. tt) (λ t. cut_keep q cs e h)

-- ---- the frame has it
not_below : (z : ℤ) → pos 0 ≤ℤ z → is_minus (sign z) ≡ false
not_below z h = go (sign z) (has z)
  where
    go : (s : Sign) → Has s z → is_minus s ≡ false
    go minus k = absurd (omega (arith, ints))
    go null k = refl
    go plus k = refl

gap : (z w : ℤ) → z ≤ℤ w → pos 0 ≤ℤ (w -ℤ z)
gap z w h = rw (parts z, parts w) (simp zify (omega (arith, ints)))

product : (a b z w t : ℤ) → a <ℤ b → z ≤ℤ w → t ≡ (b -ℤ a) *ℤ (w -ℤ z) → is_minus (sign t) ≡ false
product a b z w t h k e = ap (λ t. is_minus (sign t)) e ∙ ap is_minus (sign-* (b -ℤ a) (w -ℤ z) ∙ ap (λ s. s ⊗ sign (w -ℤ z)) (has_only plus (b -ℤ a) ((gap_pos a b).0 h))) ∙ not_below (w -ℤ z) (gap z w k)

module _ (f : Frame) (wide : f.left <ℤ f.right) (tall : f.low <ℤ f.high) where
  abbrev Inside : Point → Type 0
  Inside q = (f.left ≤ℤ q.x) × (f.low ≤ℤ q.y) × (q.x ≤ℤ f.right) × (q.y ≤ℤ f.high)

  frame_keep : (q : Point) → Inside q → All (NotRight q) (outline_of f)
  unfolding turn
  frame_keep q h = (
    product f.left f.right f.low q.y _ wide h.1 (solve 5 (λ l r lo x y. turnₑ l lo r lo x y := (r :- l) :* (y :- lo)) tt f.left f.right f.low q.x q.y),
    (
      product f.low f.high q.x f.right _ tall h.2 (solve 5 (λ lo hi r x y. turnₑ r lo r hi x y := (hi :- lo) :* (r :- x)) tt f.low f.high f.right q.x q.y),
      (
        product f.left f.right q.y f.high _ wide h.3 (solve 5 (λ l r hi x y. turnₑ r hi l hi x y := (r :- l) :* (hi :- y)) tt f.left f.right f.high q.x q.y),
        (
          product f.low f.high f.left q.x _ tall h.0 (solve 5 (λ lo hi l x y. turnₑ l hi l lo x y := (hi :- lo) :* (x :- l)) tt f.low f.high f.left q.x q.y),
          tt,
        ),
      ),
    ),
  )

all_four : {A : Type 0} (P Q R S : A → Type 0) (l : List A) → All P l → All Q l → All R l → All S l → All (λ a. P a × Q a × R a × S a) l
all_four P Q R S [] p q r s = tt
all_four P Q R S (a ∷ l) p q r s = ((p.0, q.0, r.0, s.0), all_four P Q R S l p.1 q.1 r.1 s.1)

framed_in : (table : List Triangle) → RuleA table → All (λ q. All (NotRight q) (frame_edges table)) (corners table)
unfolding frame_of flat_map
framed_in [] area = tt
framed_in (t ∷ l) area = all_map (Inside f wide tall) (λ q. All (NotRight q) (frame_edges (t ∷ l))) (frame_keep f wide tall) (corners (t ∷ l))
    (all_four (λ q. f.left ≤ℤ q.x) (λ q. f.low ≤ℤ q.y) (λ q. q.x ≤ℤ f.right) (λ q. q.y ≤ℤ f.high) (corners (t ∷ l))
    (least_all (λ q. q.x) t.a m) (least_all (λ q. q.y) t.a m) (greatest_all (λ q. q.x) t.a m) (greatest_all (λ q. q.y) t.a m))
  where
    m : List Point
    m = t.b ∷ t.c ∷ corners l

    f : Frame
    f = frame_of (corners (t ∷ l))

    wide : f.left <ℤ f.right
    wide = width t area.0 (corners l)

    tall : f.low <ℤ f.high
    tall = height t area.0 (corners l)

-- ---- the sides without a reverse have it
by_triangle : (P : Point → Type 0) (l : List Triangle) → All P (corners l) → All (λ t. P t.a × P t.b × P t.c) l
unfolding flat_map
by_triangle P [] h = tt
by_triangle P (t ∷ l) h = ((h.0, h.1.0, h.1.1.0), by_triangle P l h.1.1.1)

-- No corner of the triangle is to the right of e.
abbrev pub LeftOf : Edge → Triangle → Type 0
LeftOf e t = NotRight t.a e × NotRight t.b e × NotRight t.c e

module _ (table : List Triangle) (area : RuleA table) (framed : RuleC (frame_edges table) table) where
  pub on_the_frame : (e : Edge) → Among same_edge e (sides_of table) → count same_edge (flip e) (sides_of table) ≡ 0 → All (LeftOf e) table
  unfolding net
  on_the_frame e h k = by_triangle (λ q. NotRight q e) table
      (all_map (λ q. All (NotRight q) (frame_edges table)) (λ q. NotRight q e)
      (λ q a. counted same_edge same_edge-eq same_edge-refl (NotRight q) e (all_pieces (corners table) (frame_edges table)) piece
      (all-flat_map (NotRight q) (NotRight q) (pieces (corners table)) (pieces_keep q (corners table)) (frame_edges table) a))
      (corners table) (framed_in table area))
    where
      piece : Among same_edge e (all_pieces (corners table) (frame_edges table))
      piece = omega (arith, simp zify at (framed e))
