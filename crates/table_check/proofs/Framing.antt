-- The frame found from the last corner to the first, and its four edges in numbers. The idea: one corner more widens the frame, by the
-- definition of the least and the greatest. Assumes nothing.
use mathlib.Core.Path.{◌≡◌, refl, sym, ◌∙◌, ap, ap₂, subst}
use mathlib.Core.List.{List, [], ◌∷◌}
use Prim.Native.Nat.{ℕ, suc, ◌*◌, ◌≤◌, ◌<◌}
use native.Mathlib.Decide.{dec_le}
use Rattle.std.specs.Prelude.{min, max}
use native.Mathlib.Omega.{arith}
use lib.ListN.{length, get_or, drop, set, drop_of_length-le}
use lib.Seq.{drop-cons}
use Rattle.whole.specs.Numbers.{smaller, greater}
use Rattle.whole.specs.Sums.{All}
use Rattle.plane.specs.Points.{Point}
use Rattle.plane.specs.declared.Corner.{Corner}
use Rattle.plane.specs.Corners.{offset, millimetres}
use Rattle.plane.specs.Keys.{point, Held, key_of, points_at, Key, pairs}
use Rattle.table.specs.Table.{least, greatest, Frame, frame_of, outline_of, frame_edges}
use Rattle.table.specs.Sides.{triangles_of}
use Rattle.table.proofs.Bounds.{millimetres_le, in_order, out_of_order, key_of_lem, corners_points}
use Rattle.table_count.specs.Counting.{Edged}
use Rattle.table_check.specs.declared.Frame.{Frame as FrameCode}
use Rattle.table_check.specs.Framing.{FrameInRange, frame_held, wider}

-- ---- the lower and the higher of two held numbers
-- The order of held numbers is that of the coordinates.
module _ {m n : ℕ} (x : Held m) (y : Held n) where
  pub lower : {r : ℕ} → r ≡ min m n → Held r × (millimetres r ≡ smaller (millimetres m) (millimetres n))
  lower {r} e = elim (dec_le m n) [
    | yes h ↦ let q : r ≡ m = omega arith in (omega arith, ap millimetres q ∙ (in_order (millimetres m) (millimetres n) (millimetres_le m n h)).0)
    | no h ↦ let q : r ≡ n = omega arith in (omega arith, ap millimetres q ∙ (out_of_order (millimetres m) (millimetres n) (millimetres_le n m (omega arith))).0)
  ]

  pub higher : {r : ℕ} → r ≡ max m n → Held r × (millimetres r ≡ greater (millimetres m) (millimetres n))
  higher {r} e = elim (dec_le m n) [
    | yes h ↦ let q : r ≡ n = omega arith in (omega arith, ap millimetres q ∙ (in_order (millimetres m) (millimetres n) (millimetres_le m n h)).1)
    | no h ↦ let q : r ≡ m = omega arith in (omega arith, ap millimetres q ∙ (out_of_order (millimetres m) (millimetres n) (millimetres_le n m (omega arith))).1)
  ]

-- ---- the frame of the corners from a place on
-- Of no corners it is 0 all round; at the last corner it is that corner's coordinates; one corner more widens it.
pub frame_none : (l : List Point) → length l ≡ 0 → frame_held (record { left = offset; low = offset; right = offset; high = offset }) ≡ frame_of l
unfolding frame_of
frame_none [] h = refl
frame_none (p ∷ l) h = absurd (omega arith)

module _ (l : List Point) (d : Point) where
  pub frame_last : (i : ℕ) → length l ≡ suc i → (c : Corner) → point c ≡ get_or l i d → frame_held (record { left = c.x; low = c.y; right = c.x; high = c.y }) ≡ frame_of (drop i l)
  unfolding least greatest frame_of
  frame_last i h c e =
      let k : length l ≤ suc i = omega arith in
      ap (λ p. record { left = p.x; low = p.y; right = p.x; high = p.y }) e ∙ sym (ap frame_of (drop-cons l i d (omega arith) ∙ ap (λ m. get_or l i d ∷ m) (drop_of_length-le l k)))

  pub frame_more : (i j : ℕ) → suc j ≡ i → i < length l → (c : Corner) → point c ≡ get_or l j d → {f : Frame} → f ≡ frame_of (drop i l) → wider (point c) f ≡ frame_of (drop j l)
  unfolding least greatest frame_of
  frame_more i j e h c q r = ap₂ wider q r ∙ sym (ap frame_of (drop-cons l j d (omega arith)) ∙ rw (← e, drop-cons l (suc j) d (omega arith)) refl)

-- ---- the edges of the frame
-- Four places, all stored to.
pub stored_four : (l : List ℕ) → length l ≡ 4 → {a b c d a' b' c' d' : ℕ} → a ≡ a' → b ≡ b' → c ≡ c' → d ≡ d'
    → set (set (set (set l 0 a) 1 b) 2 c) 3 d ≡ a' ∷ b' ∷ c' ∷ d' ∷ []
stored_four [] h e f g i = absurd (omega arith)
stored_four (p ∷ []) h e f g i = absurd (omega arith)
stored_four (p ∷ q ∷ []) h e f g i = absurd (omega arith)
stored_four (p ∷ q ∷ r ∷ []) h e f g i = absurd (omega arith)
stored_four (p ∷ q ∷ r ∷ s ∷ []) h e f g i = rw (e, f, g, i) refl
stored_four (p ∷ q ∷ r ∷ s ∷ t ∷ l) h e f g i = absurd (omega arith)

-- The number of the corner of two bounds.
abbrev pub corner_key : ℕ → ℕ → ℕ
corner_key x y = key_of (record { x = x; y = y })

-- Four corners round the frame, each to the next, are its edges.
pub round : (f : FrameCode) → FrameInRange f → (from to : List ℕ)
    → from ≡ corner_key f.left f.low ∷ corner_key f.right f.low ∷ corner_key f.right f.high ∷ corner_key f.left f.high ∷ []
    → to ≡ corner_key f.right f.low ∷ corner_key f.right f.high ∷ corner_key f.left f.high ∷ corner_key f.left f.low ∷ []
    → (pairs from to ≡ outline_of (frame_held f)) × Edged from to
round f h from to p q =
    let a = key_of_lem (record { x = f.left; y = f.low }) (record { x = h.left; y = h.low }) in
    let b = key_of_lem (record { x = f.right; y = f.low }) (record { x = h.right; y = h.low }) in
    let c = key_of_lem (record { x = f.right; y = f.high }) (record { x = h.right; y = h.high }) in
    let d = key_of_lem (record { x = f.left; y = f.high }) (record { x = h.left; y = h.high }) in (
      ap₂ pairs p q ∙ rw (a.1, b.1, c.1, d.1) refl,
      record {
        from_keys = subst (All Key) (sym p) (a.0, (b.0, (c.0, (d.0, tt))));
        to_keys = subst (All Key) (sym q) (b.0, (c.0, (d.0, (a.0, tt))));
        as_many = ap length q ∙ sym (ap length p);
        few = omega (arith, ap length p);
      },
    )

-- For the corners of n triangles the edges are those of the table's frame.
pub frame_edges_lem : (keys : List ℕ) (n : ℕ) → length keys ≡ 3 * n → (f : FrameCode) → frame_held f ≡ frame_of (points_at keys) → outline_of (frame_held f) ≡ frame_edges (triangles_of keys)
frame_edges_lem keys n h f e = ap outline_of (e ∙ ap frame_of (sym (corners_points n keys h)))
