-- The frame's four edges wind once round each grid point from its least x and y up to but not including the greatest, and round no other.
-- The idea: of the four only the two upright ones can pass a point, the right one upward and the left one downward. Assumes nothing.
use mathlib.Core.Path.{◌≡◌, refl, sym, ◌∙◌, ap}
use mathlib.Core.Bool.{Bool, true, false, not, ◌&&◌, true≢false}
use mathlib.Core.List.{List, [], ◌∷◌, flat_map}
use native.Mathlib.Omega.{arith}
use lib.IntN.{ℤ, pos, negsuc, ◌+ℤ◌, ◌-ℤ◌, ◌*ℤ◌}
use lib.Signed.{◌<ℤ◌, le_z, lt_z}
use lib.Dec.{T, ltb→lt}
use Rattle.whole.specs.Sums.{bit}
use Rattle.whole.proofs.Int.{zify, ints, parts, gap_pos}
use Rattle.whole.specs.Polynomials.{◌:-◌, ◌:*◌, ◌:=◌}
use Rattle.whole.proofs.Ring.{solve}
use Rattle.whole_signs.proofs.Signs.{Sign, minus, null, plus, sign, is_plus, ◌⊗◌, Has, has, has_only, sign-*, lt_z-sign, le_z-sign, by_no_T}
use Rattle.whole_signs.proofs.Each.{each, ◌==◌, ◌⊃◌}
use Rattle.plane.specs.Points.{Point, Triangle, ◌⟶◌, turn}
use Rattle.plane_winding.specs.Winding.{wind, coverage, winding}
use Rattle.plane_winding.proofs.Winding.{level, passes, wind_is}
use Rattle.table.specs.Table.{corners, Frame, frame_of, outline_of, frame_edges, RuleA, RuleC}
use Rattle.table.proofs.Frame.{width, height}
use Rattle.table_points.specs.Points.{in_frame}
use Rattle.table_points.proofs.Covered.{covered}

-- An upright edge, and the sign of the turn to a point.
upright : (x low high : ℤ) (z : Point) → turn (record { x = x; y = low }) (record { x = x; y = high }) z ≡ (x -ℤ z.x) *ℤ (high -ℤ low)
unfolding turn
upright x low high z = solve 5 (λ x l h zx zy. (x :- x) :* (zy :- l) :- (zx :- x) :* (h :- l) := (x :- zx) :* (h :- l)) tt x low high z.x z.y

right_sign : (x low high : ℤ) (z : Point) → low <ℤ high → sign (turn (record { x = x; y = low }) (record { x = x; y = high }) z) ≡ sign (x -ℤ z.x) ⊗ plus
right_sign x low high z h = ap sign (upright x low high z) ∙ sign-* (x -ℤ z.x) (high -ℤ low) ∙ ap (λ s. sign (x -ℤ z.x) ⊗ s) (has_only plus (high -ℤ low) ((gap_pos low high).0 h))

left_sign : (x low high : ℤ) (z : Point) → low <ℤ high → sign (turn (record { x = x; y = high }) (record { x = x; y = low }) z) ≡ sign (x -ℤ z.x) ⊗ minus
left_sign x low high z h =
    ap sign (upright x high low z) ∙ sign-* (x -ℤ z.x) (low -ℤ high)
    ∙ ap (λ s. sign (x -ℤ z.x) ⊗ s) (has_only minus (low -ℤ high) (rw (parts low, parts high) (simp zify (omega (arith, ints, h)))))

-- What is above a number that is above the point's is above the point's.
ordered : (w p q : ℤ) → p <ℤ q → T (not (is_plus (sign (p -ℤ w)) && not (is_plus (sign (q -ℤ w)))))
ordered w p q h = go (sign (p -ℤ w)) (sign (q -ℤ w)) (has (p -ℤ w)) (has (q -ℤ w))
  where
    go : (s r : Sign) → Has s (p -ℤ w) → Has r (q -ℤ w) → T (not (is_plus s && not (is_plus r)))
    go minus r i j = tt
    go null r i j = tt
    go plus plus i j = tt
    go plus null i j = absurd (omega (arith, ints, h, simp zify at (rw (parts p, parts w) at i), simp zify at (rw (parts q, parts w) at j)))
    go plus minus i j = absurd (omega (arith, ints, h, simp zify at (rw (parts p, parts w) at i), simp zify at (rw (parts q, parts w) at j)))

-- The four edges, by the signs of the lowest and highest height over the point and of the left and right side beside it.
four : (a b l r k m : Sign) → T (not (is_plus a && not (is_plus b))) → T (not (is_plus l && not (is_plus r)))
    → passes a a k +ℤ (passes a b (r ⊗ plus) +ℤ (passes b b m +ℤ (passes b a (l ⊗ minus) +ℤ pos 0))) ≡ pos (bit (not (is_plus l) && is_plus r && not (is_plus a) && is_plus b))
four = each 6 (λ a b l r k m. not (is_plus a && not (is_plus b)) ⊃ not (is_plus l && not (is_plus r))
    ⊃ passes a a k +ℤ (passes a b (r ⊗ plus) +ℤ (passes b b m +ℤ (passes b a (l ⊗ minus) +ℤ pos 0))) == pos (bit (not (is_plus l) && is_plus r && not (is_plus a) && is_plus b))) tt

pub frame_wind : (z : Point) (f : Frame) → f.left <ℤ f.right → f.low <ℤ f.high → winding z (outline_of f) ≡ pos (bit (in_frame z f))
frame_wind z f wide tall =
    (λ i. e₁ i +ℤ (e₂ i +ℤ (e₃ i +ℤ (e₄ i +ℤ pos 0))))
    ∙ four (level z p) (level z q) (sign (f.left -ℤ z.x)) (sign (f.right -ℤ z.x)) (sign (turn p o z)) (sign (turn q n z)) (ordered z.y f.low f.high tall) (ordered z.x f.left f.right wide)
    ∙ (λ i. pos (bit (sym (le_z-sign f.left z.x) i && sym (lt_z-sign z.x f.right) i && sym (le_z-sign f.low z.y) i && sym (lt_z-sign z.y f.high) i)))
  where
    p : Point
    p = record { x = f.left; y = f.low }

    o : Point
    o = record { x = f.right; y = f.low }

    q : Point
    q = record { x = f.right; y = f.high }

    n : Point
    n = record { x = f.left; y = f.high }

    e₁ : wind z (p ⟶ o) ≡ passes (level z p) (level z p) (sign (turn p o z))
    e₁ = wind_is z p o

    e₂ : wind z (o ⟶ q) ≡ passes (level z p) (level z q) (sign (f.right -ℤ z.x) ⊗ plus)
    e₂ = wind_is z o q ∙ ap (passes (level z p) (level z q)) (right_sign f.right f.low f.high z tall)

    e₃ : wind z (q ⟶ n) ≡ passes (level z q) (level z q) (sign (turn q n z))
    e₃ = wind_is z q n

    e₄ : wind z (n ⟶ p) ≡ passes (level z q) (level z p) (sign (f.left -ℤ z.x) ⊗ minus)
    e₄ = wind_is z n p ∙ ap (passes (level z q) (level z p)) (left_sign f.left f.low f.high z tall)

-- No point is in the frame of no points.
nowhere : (z : Point) → in_frame z (frame_of []) ≡ false
unfolding frame_of
nowhere z = go z.x
  where
    second : (a b c d : Bool) → b ≡ false → (a && b && c && d) ≡ false
    second true true c d e = absurd (true≢false e)
    second true false c d e = refl
    second false b c d e = refl

    go : (x : ℤ) → (le_z (pos 0) x && lt_z x (pos 0) && le_z (pos 0) z.y && lt_z z.y (pos 0)) ≡ false
    go (pos n) = second (le_z (pos 0) (pos n)) (lt_z (pos n) (pos 0)) (le_z (pos 0) z.y) (lt_z z.y (pos 0)) (by_no_T (lt_z (pos n) (pos 0)) (λ t. omega (arith, ltb→lt n 0 t)))
    go (negsuc n) = refl

-- The grid points of the frame belong to one triangle each, counted; others to none.
pub covered_once : (z : Point) (table : List Triangle) → RuleA table → RuleC (frame_edges table) table → coverage z table ≡ pos (bit (in_frame z (frame_of (corners table))))
unfolding flat_map
covered_once z [] area framed = sym (ap (λ b. pos (bit b)) (nowhere z))
covered_once z (t ∷ l) area framed =
    covered z (t ∷ l) (t ∷ l) (frame_edges (t ∷ l)) area framed
    ∙ frame_wind z (frame_of (corners (t ∷ l))) (width t area.0 (corners l)) (height t area.0 (corners l))
