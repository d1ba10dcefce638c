-- The plane turned so that a given way runs to the right: points on sides are told apart in every direction. Round a corner v at most one triangle of a table
-- that passes the rules has the ray from v to x in its wedge.
-- The idea: turning and stretching by the vector (m, n) multiplies every turn by m² + n². The passing of an edge stays odd and adds up at cuts, round a triangle
-- it is 1 or 0, and round the turned frame it is 1 at most, since the turned frame is convex. Assumes nothing.
use mathlib.Core.Path.{◌≡◌, refl, sym, ◌∙◌, ap, ap₂, subst}
use mathlib.Core.Bool.{Bool, true, false, not, ◌&&◌, true≢false}
use mathlib.Core.List.{List, [], ◌∷◌, flat_map}
use Prim.Native.Nat.{ℕ, ◌≤◌}
use native.Mathlib.Omega.{arith}
use lib.IntN.{ℤ, pos, ◌+ℤ◌, ◌-ℤ◌, ◌*ℤ◌, zero-*ℤ}
use lib.Signed.{◌≤ℤ◌, ◌<ℤ◌, le_z, le_z_yes}
use lib.Dec.{T}
use Rattle.whole.specs.Sums.{bit, sum}
use Rattle.whole.proofs.Int.{zify, ints, parts, *-pos}
use Rattle.whole.specs.Polynomials.{◌:+◌, ◌:-◌, ◌:*◌, :-◌, ◌:=◌}
use Rattle.whole.proofs.Ring.{solve}
use Rattle.whole.proofs.Sums.{sum-++}
use Rattle.plane.specs.Points.{Point, Edge, Triangle, ◌⟶◌, turn, onward, double, sides, between}
use Rattle.plane.specs.Cuts.{all_pieces}
use Rattle.plane.specs.Boundaries.{sides_of}
use Rattle.plane.proofs.Points.{between_line, between_onward, between_intro, turnₑ, onwardₑ}
use Rattle.plane.proofs.Boundaries.{edge_sum}
use Rattle.plane.proofs.Cuts.{pieces_sum}
use Rattle.table.specs.Table.{corners, Frame, frame_of, outline_of, frame_edges, RuleA, RuleC}
use Rattle.table.proofs.Sets.{tally}
use Rattle.plane_winding.specs.Winding.{belongs, wind}
use Rattle.whole_signs.proofs.Signs.{Sign, minus, null, plus, sign, is_plus, Has, has}
use Rattle.whole_signs.proofs.Each.{each, is, ◌⊃◌}
use Rattle.plane_winding.proofs.Winding.{level, passes, wind_is, wind_flip, wind_adds}
use Rattle.plane_winding.proofs.Belongs.{triangle_wind}
use Rattle.whole_signs.proofs.Cancelling.{not_plus}

-- ---- the turned plane
module _ (m n : ℤ) where
  abbrev pub image : Point → Point
  image p = record { x = m *ℤ p.x +ℤ n *ℤ p.y; y = m *ℤ p.y -ℤ n *ℤ p.x }

  abbrev pub imageₑ : Edge → Edge
  imageₑ e = image e.from ⟶ image e.to

  abbrev pub imageₜ : Triangle → Triangle
  imageₜ t = record { a = image t.a; b = image t.b; c = image t.c }

  abbrev pub stretch : ℤ
  stretch = m *ℤ m +ℤ n *ℤ n

  pub turn_image : (p q r : Point) → turn (image p) (image q) (image r) ≡ turn p q r *ℤ stretch
  unfolding turn
  turn_image p q r = solve 8 (λ m n px py qx qy rx ry.
      turnₑ (m :* px :+ n :* py) (m :* py :- n :* px) (m :* qx :+ n :* qy) (m :* qy :- n :* qx) (m :* rx :+ n :* ry) (m :* ry :- n :* rx)
      := turnₑ px py qx qy rx ry :* (m :* m :+ n :* n)) tt m n p.x p.y q.x q.y r.x r.y

  onward_image : (p q r : Point) → onward (image p) (image q) (image r) ≡ onward p q r *ℤ stretch
  unfolding onward
  onward_image p q r = solve 8 (λ m n px py qx qy rx ry.
      onwardₑ (m :* px :+ n :* py) (m :* py :- n :* px) (m :* qx :+ n :* qy) (m :* qy :- n :* qx) (m :* rx :+ n :* ry) (m :* ry :- n :* rx)
      := onwardₑ px py qx qy rx ry :* (m :* m :+ n :* n)) tt m n p.x p.y q.x q.y r.x r.y

  module _ (some : pos 0 <ℤ stretch) where
    between_image : (c : Point) (e : Edge) → T (between c e) → T (between (image c) (imageₑ e))
    between_image c e t = between_intro (image c) (imageₑ e)
        (turn_image e.from c e.to ∙ ap (λ z. z *ℤ stretch) (between_line c e t) ∙ zero-*ℤ stretch)
        (rw (onward_image e.from c e.to) (*-pos (onward e.from c e.to) stretch (between_onward c e t) some))

    area_image : (t : Triangle) → pos 0 <ℤ double t → pos 0 <ℤ double (imageₜ t)
    area_image t h = rw (turn_image t.a t.b t.c) (*-pos (double t) stretch h some)

    module _ (z : Point) where
      abbrev pub windₘ : Edge → ℤ
      windₘ e = wind (image z) (imageₑ e)

      abbrev pub holdsₘ : Triangle → ℕ
      holdsₘ t = bit (belongs (image z) (imageₜ t))

      counted_round : (l : List Triangle) → RuleA l → sum windₘ (sides_of l) ≡ pos (tally holdsₘ l)
      unfolding tally flat_map
      counted_round [] h = refl
      counted_round (t ∷ l) h = sum-++ windₘ (sides t) (sides_of l) ∙ ap₂ ◌+ℤ◌ (triangle_wind (image z) (imageₜ t) (area_image t h.0)) (counted_round l h.1)

-- ---- the turned frame
-- Of four numbers round, the first and third not above 0, the others above.
abbrev alternate : Sign → Sign → Sign → Sign → Bool
alternate a b c d = not (is_plus a) && is_plus b && not (is_plus c) && is_plus d

pub is_plus_lem : (z : ℤ) → is_plus (sign z) ≡ true → pos 0 <ℤ z
is_plus_lem z e = go (sign z) (has z) e
  where
    go : (s : Sign) → Has s z → is_plus s ≡ true → pos 0 <ℤ z
    go minus h e = absurd (true≢false (sym e))
    go null h e = absurd (true≢false (sym e))
    go plus h e = h

no_alternate : (p q r s : ℤ) → p +ℤ r ≡ q +ℤ s → T (not (alternate (sign p) (sign q) (sign r) (sign s)))
no_alternate p q r s e = go (is_plus (sign p)) (is_plus (sign q)) (is_plus (sign r)) (is_plus (sign s)) refl refl refl refl
  where
    go : (i j k l : Bool) → is_plus (sign p) ≡ i → is_plus (sign q) ≡ j → is_plus (sign r) ≡ k → is_plus (sign s) ≡ l → T (not (not i && j && not k && l))
    go true j k l a b c d = tt
    go false false k l a b c d = tt
    go false true true l a b c d = tt
    go false true false false a b c d = tt
    go false true false true a b c d = absurd (omega (arith, ints, not_plus p a, is_plus_lem q b, not_plus r c, is_plus_lem s d, simp zify at (rw (parts p, parts q, parts r, parts s) at e)))

four_most : (a b c d k l m n : Sign) → T (not (alternate a b c d)) → T (not (alternate b c d a))
    → T (le_z (passes a b k +ℤ (passes b c l +ℤ (passes c d m +ℤ (passes d a n +ℤ pos 0)))) (pos 1))
four_most = each 8 (λ a b c d k l m n. not (alternate a b c d) ⊃ not (alternate b c d a)
    ⊃ is (le_z (passes a b k +ℤ (passes b c l +ℤ (passes c d m +ℤ (passes d a n +ℤ pos 0)))) (pos 1))) tt

-- The four edges of the turned frame pass a point once at most.
frame_most : (m n : ℤ) (z : Point) (f : Frame) → sum (λ e. wind z (imageₑ m n e)) (outline_of f) ≤ℤ pos 1
frame_most m n z f = le_z_yes (subst (λ w. T (le_z w (pos 1))) (sym round)
    (four_most (level z a) (level z b) (level z c) (level z d) (sign (turn a b z)) (sign (turn b c z)) (sign (turn c d z)) (sign (turn d a z))
    (no_alternate (a.y -ℤ z.y) (b.y -ℤ z.y) (c.y -ℤ z.y) (d.y -ℤ z.y) even)
    (no_alternate (b.y -ℤ z.y) (c.y -ℤ z.y) (d.y -ℤ z.y) (a.y -ℤ z.y) odd)))
  where
    a : Point
    a = image m n (record { x = f.left; y = f.low })

    b : Point
    b = image m n (record { x = f.right; y = f.low })

    c : Point
    c = image m n (record { x = f.right; y = f.high })

    d : Point
    d = image m n (record { x = f.left; y = f.high })

    round : wind z (a ⟶ b) +ℤ (wind z (b ⟶ c) +ℤ (wind z (c ⟶ d) +ℤ (wind z (d ⟶ a) +ℤ pos 0)))
        ≡ passes (level z a) (level z b) (sign (turn a b z)) +ℤ (passes (level z b) (level z c) (sign (turn b c z))
        +ℤ (passes (level z c) (level z d) (sign (turn c d z)) +ℤ (passes (level z d) (level z a) (sign (turn d a z)) +ℤ pos 0)))
    round = rw (wind_is z a b, wind_is z b c, wind_is z c d, wind_is z d a)

    even : (a.y -ℤ z.y) +ℤ (c.y -ℤ z.y) ≡ (b.y -ℤ z.y) +ℤ (d.y -ℤ z.y)
    even = solve 7 (λ m n le lo ri hi zy. (m :* lo :- n :* le :- zy) :+ (m :* hi :- n :* ri :- zy) := (m :* lo :- n :* ri :- zy) :+ (m :* hi :- n :* le :- zy)) tt m n f.left f.low f.right f.high z.y

    odd : (b.y -ℤ z.y) +ℤ (d.y -ℤ z.y) ≡ (c.y -ℤ z.y) +ℤ (a.y -ℤ z.y)
    odd = solve 7 (λ m n le lo ri hi zy. (m :* lo :- n :* ri :- zy) :+ (m :* hi :- n :* le :- zy) := (m :* hi :- n :* ri :- zy) :+ (m :* lo :- n :* le :- zy)) tt m n f.left f.low f.right f.high z.y

-- ---- round a corner
abbrev pub dx : Point → Point → ℤ
dx v x = x.x -ℤ v.x

abbrev pub dy : Point → Point → ℤ
dy v x = x.y -ℤ v.y

-- The point v, moved a little towards x, belongs to the triangle; how many triangles of a list it belongs to.
abbrev pub touches : (v x : Point) → Triangle → Bool
touches v x t = belongs (image (dx v x) (dy v x) v) (imageₜ (dx v x) (dy v x) t)

abbrev pub meets : (v x : Point) → Triangle → ℕ
meets v x t = bit (touches v x t)

abbrev pub round : (v x : Point) → List Triangle → ℕ
round v x l = tally (meets v x) l

pos_le : (n : ℕ) → pos n ≤ℤ pos 1 → n ≤ 1
pos_le n h = omega (arith, ints)

-- No two triangles of a table that passes rules A and C overlap next to v.
pub one_round : (table : List Triangle) → RuleA table → RuleC (frame_edges table) table → (v x : Point) → pos 0 <ℤ stretch (dx v x) (dy v x) → round v x table ≤ 1
unfolding tally flat_map
one_round [] area framed v x some = omega arith
one_round (t ∷ l) area framed v x some = pos_le (tally (meets v x) (t ∷ l)) (subst (λ w. w ≤ℤ pos 1)
    (sym (pieces_sum f (λ e. wind_flip z (imageₑ m n e)) (λ e c h. wind_adds z (imageₑ m n e) (image m n c) (between_image m n some c e h)) (corners (t ∷ l)) (frame_edges (t ∷ l)))
    ∙ sym (edge_sum f (λ e. wind_flip z (imageₑ m n e)) (sides_of (t ∷ l)) (all_pieces (corners (t ∷ l)) (frame_edges (t ∷ l))) framed)
    ∙ counted_round m n some v (t ∷ l) area)
    (frame_most m n z (frame_of (corners (t ∷ l)))))
  where
    m : ℤ
    m = dx v x

    n : ℤ
    n = dy v x

    z : Point
    z = image m n v

    f : Edge → ℤ
    f e = wind z (imageₑ m n e)
