-- The sides of a table by number on the frame: no corner is to their right, and from each the next one along the frame is found by going clockwise round the corner at
-- which it ends. Assumes nothing.
use mathlib.Core.Path.{◌≡◌, refl, sym, ◌∙◌, ap, subst}
use mathlib.Core.Bool.{true, false, not, true≢false}
use mathlib.Core.List.{List, [], ◌∷◌}
use Prim.Native.Nat.{ℕ, zero, suc, ◌*◌, ◌-◌, ◌≤◌, ◌<◌}
use native.Mathlib.Omega.{arith}
use native.Mathlib.Decide.{dec_le}
use lib.Dec.{T, eqb, eqb→eq}
use lib.ListN.{length, get_or}
use Rattle.whole.specs.Sums.{All, count}
use Rattle.plane.specs.Points.{Point, Edge, flip, turn, same_edge}
use Rattle.plane.specs.Boundaries.{sides_of}
use Rattle.plane.specs.Keys.{point_at}
use Rattle.whole_signs.proofs.Signs.{Sign, minus, null, plus, sign, is_plus, is_minus, opposite}
use Rattle.plane_winding.proofs.Belongs.{turn_turn}
use Rattle.plane_turning.proofs.Rays.{sign_back}
use Rattle.lent_little.specs.Held.{end_of}
use Rattle.table.specs.Table.{frame_edges, RuleA, RuleB, RuleC}
use Rattle.table.specs.Sides.{triangles_of, side_at}
use Rattle.table.specs.Opposites.{opposites}
use Rattle.table.proofs.Shares.{among_side, opposite_none, opposite_some, opposite_is, length_opposites}
use Rattle.table_fans.proofs.Hull.{NotRight, LeftOf, on_the_frame}
use Rattle.repair_follower.specs.Follower.{side_before, on_frame, clockwise, along_frame}
use Rattle.repair_sweep.proofs.Ends.{ends, along_keeps}
use Rattle.repair_sweep.proofs.Places.{before_end, end_in, joined_end}

-- What holds of the corners of all triangles holds of each.
corner_of : (P : Point → Type 0) (keys : List ℕ) (n : ℕ) → length keys ≡ 3 * n → (i : ℕ) → i < length keys → All (λ t. P t.a × P t.b × P t.c) (triangles_of keys) → P (point_at (get_or keys i 0))
corner_of P [] n e i h a = absurd (omega arith)
corner_of P (x ∷ []) n e i h a = absurd (omega arith)
corner_of P (x ∷ y ∷ []) n e i h a = absurd (omega arith)
corner_of P (x ∷ y ∷ z ∷ l) n e zero h a = a.0.0
corner_of P (x ∷ y ∷ z ∷ l) n e (suc zero) h a = a.0.1
corner_of P (x ∷ y ∷ z ∷ l) n e (suc (suc zero)) h a = a.0.2
corner_of P (x ∷ y ∷ z ∷ l) n e (suc (suc (suc i))) h a = corner_of P l (n - 1) (omega arith) i (omega arith) a.1

-- ---- signs
not_plus_back : (s : Sign) → is_minus (opposite s) ≡ false → T (not (is_plus s))
not_plus_back minus e = tt
not_plus_back null e = tt
not_plus_back plus e = absurd (true≢false e)

not_plus_over : (s : Sign) → is_minus s ≡ false → T (not (is_plus (opposite s)))
not_plus_over minus e = absurd (true≢false e)
not_plus_over null e = tt
not_plus_over plus e = tt

ahead : (z v q : Point) → sign (turn z v q) ≡ opposite (sign (turn v z q))
ahead z v q = ap sign (sym (turn_turn z v q)) ∙ sign_back v z q

module _ (keys : List ℕ) (n : ℕ) (whole : length keys ≡ 3 * n) where
  abbrev side : ℕ → Edge
  side = side_at keys

  abbrev opposite_of : List ℕ
  opposite_of = opposites (sides_of (triangles_of keys))

  -- The number of the reverse, where there is one.
  pub reverse : (k : ℕ) → k < length keys → on_frame opposite_of k ≡ false → (get_or opposite_of k 0 - 1 < length keys) × (side (get_or opposite_of k 0 - 1) ≡ flip (side k))
  reverse k h e = opposite_some keys n whole k (get_or opposite_of k 0 - 1) h (go (get_or opposite_of k 0) refl)
    where
      go : (x : ℕ) → get_or opposite_of k 0 ≡ x → get_or opposite_of k 0 ≡ suc (get_or opposite_of k 0 - 1)
      go zero q = absurd (true≢false (sym (ap (λ x. eqb x 0) q) ∙ e))
      go (suc o) q = omega arith

  pub none_across : (k : ℕ) → on_frame opposite_of k ≡ true → get_or opposite_of k 0 ≡ 0
  none_across k e = eqb→eq (get_or opposite_of k 0) 0 (rw e tt)

  -- And its reverse is the side.
  pub reverse_back : RuleB (triangles_of keys) → (k : ℕ) → k < length keys → on_frame opposite_of k ≡ false → get_or opposite_of (get_or opposite_of k 0 - 1) 0 ≡ suc k
  reverse_back once k h e = let r = reverse k h e in opposite_is keys n whole once (get_or opposite_of k 0 - 1) k r.0 h (ap flip (sym r.1))

  -- ---- no corner is to the right of a side on the frame
  module _ (area : RuleA (triangles_of keys)) (framed : RuleC (frame_edges (triangles_of keys)) (triangles_of keys)) where
    left_of : (g : ℕ) → g < length keys → on_frame opposite_of g ≡ true → All (LeftOf (side g)) (triangles_of keys)
    left_of g h e = on_the_frame (triangles_of keys) area framed (side g) ((among_side keys n whole (side g)).1 (g, h, refl)) (go (dec_le 1 (count same_edge (flip (side g)) (sides_of (triangles_of keys)))))
      where
        go : Dec (1 ≤ count same_edge (flip (side g)) (sides_of (triangles_of keys))) → count same_edge (flip (side g)) (sides_of (triangles_of keys)) ≡ 0
        go (yes c) = let s = (among_side keys n whole (flip (side g))).0 c in absurd (opposite_none keys n whole g h (none_across g e) s.0 s.1 s.2)
        go (no c) = omega arith

    pub arrives_left : (g : ℕ) → g < length keys → on_frame opposite_of g ≡ true → (i : ℕ) → i < length keys → T (not (is_plus (sign (turn (side g).to (side g).from (side i).from))))
    arrives_left g h e i k = not_plus_back (sign (turn (side g).to (side g).from (side i).from))
        (subst (λ s. is_minus s ≡ false) (ahead (side g).from (side g).to (side i).from) (corner_of (λ q. NotRight q (side g)) keys n whole i k (left_of g h e)))

    pub leaves_left : (f : ℕ) → f < length keys → on_frame opposite_of f ≡ true → (i : ℕ) → i < length keys → T (not (is_plus (sign (turn (side f).from (side i).from (side f).to))))
    leaves_left f h e i k = subst (λ s. T (not (is_plus s))) (sym (sign_back (side f).from (side f).to (side i).from))
        (not_plus_over (sign (turn (side f).from (side f).to (side i).from)) (corner_of (λ q. NotRight q (side f)) keys n whole i k (left_of f h e)))

  -- ---- along the frame
  module _ (once : RuleB (triangles_of keys)) (g : ℕ) (h : g < length keys) (e : on_frame opposite_of g ≡ true) where
    many : length opposite_of ≡ length keys
    many = length_opposites keys n whole

    abbrev Leaving : ℕ → Type 0
    Leaving c = (c < length keys) × ((side c).from ≡ (side g).to)

    turning : (c : ℕ) → Leaving c → on_frame opposite_of c ≡ false → Leaving (clockwise opposite_of c)
    turning c l t = let r = reverse c l.0 t in (end_in keys n whole (get_or opposite_of c 0 - 1) r.0, joined_end keys n whole (get_or opposite_of c 0 - 1) r.0 ∙ ap (λ z. z.to) r.1 ∙ l.1)

    pub along_leaves : Leaving (along_frame opposite_of (end_of g))
    along_leaves = along_keeps Leaving (on_frame opposite_of) (clockwise opposite_of) turning (length opposite_of) (end_of g) (end_in keys n whole g h, joined_end keys n whole g h)

    pub along_ends : on_frame opposite_of (along_frame opposite_of (end_of g)) ≡ true
    along_ends = ends (length opposite_of) (on_frame opposite_of) (clockwise opposite_of) (end_of g)
        (λ c k t. let r = reverse c (omega (arith, many)) t in omega (arith, many, end_in keys n whole (get_or opposite_of c 0 - 1) r.0))
        (λ c d k l t u p. same c d (omega (arith, many)) (omega (arith, many)) t u p)
        (λ c k t p. start c (omega (arith, many)) t p)
        (omega (arith, many, end_in keys n whole g h))
      where
        unend : (x y : ℕ) → end_of x ≡ end_of y → x ≡ y
        unend x y p = sym (before_end x) ∙ ap side_before p ∙ before_end y

        same : (c d : ℕ) → c < length keys → d < length keys → on_frame opposite_of c ≡ false → on_frame opposite_of d ≡ false → clockwise opposite_of c ≡ clockwise opposite_of d → c ≡ d
        same c d k l t u p = let q = unend (get_or opposite_of c 0 - 1) (get_or opposite_of d 0 - 1) p in
            omega (arith, reverse_back once c k t, reverse_back once d l u, ap (λ x. get_or opposite_of x 0) q)

        start : (c : ℕ) → c < length keys → on_frame opposite_of c ≡ false → clockwise opposite_of c ≡ end_of g → ⊥
        start c k t p = omega (arith, reverse_back once c k t, ap (λ x. get_or opposite_of x 0) (unend (get_or opposite_of c 0 - 1) g p), none_across g e)
