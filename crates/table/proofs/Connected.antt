-- A table that passes rules A, B and C is connected through shared sides: a set of its triangles that has with a triangle also those
-- across its sides is empty or has all triangles.
-- The idea: the sides that such a set has without their reverse are pieces of the frame. Round a triangle as many sides come to a point
-- as leave it, so the same holds of those pieces; since the frame is a walk that passes each point once, they are all of it or none
-- (the law of the round walk). A set with no boundary is empty, and one with the whole frame leaves a rest with no boundary.
-- Assumes nothing.
use mathlib.Core.Path.{◌≡◌, refl, sym, ◌∙◌, subst}
use mathlib.Core.Logic.{◌⊎◌, inl, inr, ⊎_elim}
use mathlib.Core.Bool.{Bool, true, false}
use mathlib.Core.List.{List, [], ◌∷◌, flat_map}
use Prim.Native.Nat.{ℕ, ◌+◌, ◌≤◌}
use native.Mathlib.Omega.{arith}
use native.Mathlib.Decide.{dec_le}
use lib.Dec.{T, leb, leb→le, le→leb}
use lib.IntN.{ℤ, pos, neg_ℤ, ◌+ℤ◌, ◌-ℤ◌}
use lib.Signed.{◌<ℤ◌}
use Rattle.whole.specs.Sums.{All, sum, bit, count, net}
use Rattle.whole.proofs.Int.{zify}
use Rattle.whole.specs.Polynomials.{con, ◌:+◌, ◌:-◌, :-◌, ◌:=◌}
use Rattle.whole.proofs.Ring.{difference, solve}
use Rattle.whole.proofs.Sums.{sum-flat_map}
use Rattle.plane.specs.Points.{Point, Edge, Triangle, flip, same_point, same_edge, sides}
use Rattle.plane.specs.Cuts.{pieces, all_pieces}
use Rattle.plane.specs.Boundaries.{SameBoundary, sides_of}
use Rattle.plane.proofs.Boundaries.{edge_sum}
use Rattle.plane.proofs.Chains.{Chain, leaves, comes, keep, keep_all, keep_none, count_kept, count_dropped, at_count, round}
use Rattle.plane.proofs.Cuts.{pieces_chain}
use Rattle.table.specs.Table.{corners, Frame, frame_of, outline_of, frame_edges, RuleA, RuleB, RuleC}
use Rattle.table.specs.Sets.{SetOf, chosen}
use Rattle.table.specs.Sides.{NoBoundary, Closed}
use Rattle.table.proofs.Sets.{both, zero_empty, zero_full}
use Rattle.table.proofs.Frame.{width, height, rectangle_once}

-- ---- as many sides come to a point as leave it
-- 1 for a pair that comes to the point, less 1 for one that leaves it.
arrives : Point → Edge → ℤ
arrives w e = pos (bit (same_point e.to w)) -ℤ pos (bit (same_point e.from w))

arrives_flip : (w : Point) (e : Edge) → arrives w (flip e) ≡ neg_ℤ (arrives w e)
unfolding arrives
arrives_flip w e = solve 2 (λ a b. b :- a := :- (a :- b)) tt (pos (bit (same_point e.to w))) (pos (bit (same_point e.from w)))

arrives_sides : (w : Point) (l : List Triangle) → sum (arrives w) (sides_of l) ≡ pos 0
unfolding arrives
arrives_sides w l = sum-flat_map (arrives w) sides (λ t. pos 0) (λ t. around (pos (bit (same_point t.a w))) (pos (bit (same_point t.b w))) (pos (bit (same_point t.c w)))) l ∙ zeros l
  where
    around : (a b c : ℤ) → (b -ℤ a) +ℤ ((c -ℤ b) +ℤ ((a -ℤ c) +ℤ pos 0)) ≡ pos 0
    around = solve 3 (λ a b c. (b :- a) :+ ((c :- b) :+ ((a :- c) :+ con (pos 0))) := con (pos 0)) tt

    zeros : (l : List Triangle) → sum (λ t. pos 0) l ≡ pos 0
    zeros [] = refl
    zeros (t ∷ l) = rw (zeros l)

arrives_list : (w : Point) (l : List Edge) → sum (arrives w) l ≡ pos (comes w l) -ℤ pos (leaves w l)
unfolding arrives
arrives_list w [] = refl
arrives_list w (e ∷ l) = rw (arrives_list w l) (together (bit (same_point e.to w)) (bit (same_point e.from w)) (comes w l) (leaves w l))
  where
    together : (a b c d : ℕ) → (pos a -ℤ pos b) +ℤ (pos c -ℤ pos d) ≡ pos (a + c) -ℤ pos (b + d)
    together a b c d = solve 4 (λ a b c d. (a :- b) :+ (c :- d) := (a :+ c) :- (b :+ d)) tt (pos a) (pos b) (pos c) (pos d)

-- Pairs with the boundary of a set of triangles come to each point as often as they leave it.
balanced : (s : List Triangle) (l : List Edge) → SameBoundary (sides_of s) l → (w : Point) → comes w l ≡ leaves w l
balanced s l h w = equal (comes w l) (leaves w l) (sym (arrives_list w l) ∙ sym (edge_sum (arrives w) (arrives_flip w) (sides_of s) l h) ∙ arrives_sides w s)
  where
    equal : (a b : ℕ) → pos a -ℤ pos b ≡ pos 0 → a ≡ b
    equal a b e = cc (difference (pos a) (pos b) e)

-- ---- the frame is a walk round
-- A list of pairs that is a walk round: no pair twice, and a part of it that comes to each point as often as it leaves it is all or nothing.
record Walk (l : List Edge) : Type 0 where
  once : (e : Edge) → count same_edge e l ≤ 1
  whole : (p : Edge → Bool) → ((w : Point) → comes w (keep p l) ≡ leaves w (keep p l)) → All (λ e. T (p e)) l ⊎ All (λ e. T (p e) → ⊥) l

walk : (o : Point) (l : List Edge) → Chain o o l → ((w : Point) → leaves w l ≤ 1) → Walk l
walk o l c h = record { once = λ e. omega (arith, at_count (λ e. e.from) e l, h e.from); whole = round o l c h }

outline_walk : (cs : List Point) (f : Frame) → f.left <ℤ f.right → f.low <ℤ f.high → Walk (all_pieces cs (outline_of f))
outline_walk cs f wide tall = walk o (all_pieces cs (outline_of f)) (pieces_chain cs o o (outline_of f) (refl, (refl, (refl, (refl, refl))))) (rectangle_once cs f wide tall)
  where
    o : Point
    o = record { x = f.left; y = f.low }

frame_walk : (table : List Triangle) → RuleA table → Walk (all_pieces (corners table) (frame_edges table))
unfolding flat_map pieces frame_of
frame_walk [] area = record { once = λ e. omega arith; whole = λ p h. inl tt }
frame_walk (t ∷ l) area = outline_walk (corners (t ∷ l)) _ (width t area.0 (corners l)) (height t area.0 (corners l))

-- ---- a set that is closed under going across sides
module _ (table : List Triangle) (area : RuleA table) (once : RuleB table) (framed : RuleC (frame_edges table) table) (s : List Bool) (fits : SetOf table s) (closed : Closed table s) where
  abbrev frames : List Edge
  frames = all_pieces (corners table) (frame_edges table)

  abbrev # : Edge → ℕ
  # e = count same_edge e (sides_of (chosen table s))

  -- The pair is a side of a triangle of the set.
  abbrev has : Edge → Bool
  has e = leb 1 (# e)

  kept : (e : Edge) → 1 ≤ # e → count same_edge e (keep has frames) ≡ count same_edge e frames
  kept e h = count_kept has e (le→leb 1 (# e) h) frames

  dropped : (e : Edge) → # e ≡ 0 → count same_edge e (keep has frames) ≡ 0
  dropped e h = count_dropped has e (λ t. omega (arith, leb→le 1 (# e) t)) frames

  -- A side of the set whose reverse is none of its sides has no reverse in the table.
  alone : (e : Edge) → 1 ≤ # e → (1 ≤ # (flip e) → ⊥) → count same_edge (flip e) (sides_of table) ≡ 0
  alone e p q = go (dec_le 1 (count same_edge (flip e) (sides_of table)))
    where
      go : Dec (1 ≤ count same_edge (flip e) (sides_of table)) → count same_edge (flip e) (sides_of table) ≡ 0
      go (yes h) = absurd (q (closed e p h))
      go (no h) = omega arith

  -- The set's boundary is the pieces of the frame that are its sides.
  part : SameBoundary (sides_of (chosen table s)) (keep has frames)
  unfolding net
  part e = go (dec_le 1 (# e)) (dec_le 1 (# (flip e)))
    where
      go : Dec (1 ≤ # e) → Dec (1 ≤ # (flip e)) → pos (# e) -ℤ pos (# (flip e)) ≡ pos (count same_edge e (keep has frames)) -ℤ pos (count same_edge (flip e) (keep has frames))
      go (yes p) (yes q) = simp zify (omega (arith, kept e p, kept (flip e) q, simp zify at (framed e), both table area once s fits e, both table area once s fits (flip e), once e, once (flip e)))
      go (yes p) (no q) =
          simp zify (omega (arith, kept e p, dropped (flip e) (omega arith), simp zify at (framed e), both table area once s fits e, alone e p q, once e, (frame_walk table area).once e))
      go (no p) (yes q) =
          simp zify (omega (arith, kept (flip e) q, dropped e (omega arith), simp zify at (framed e), both table area once s fits (flip e), alone (flip e) q p, once (flip e), (frame_walk table area).once (flip e)))
      go (no p) (no q) = simp zify (omega (arith, dropped e (omega arith), dropped (flip e) (omega arith)))

  -- The boundary of a set that is closed under going across sides runs round the whole frame or nowhere.
  pub round_or_nowhere : SameBoundary (sides_of (chosen table s)) frames ⊎ NoBoundary (sides_of (chosen table s))
  unfolding net
  round_or_nowhere = ⊎_elim
      (λ h. inl (subst (SameBoundary (sides_of (chosen table s))) (keep_all has frames h) part))
      (λ h. inr (subst (SameBoundary (sides_of (chosen table s))) (keep_none has frames h) part))
      ((frame_walk table area).whole has (balanced (chosen table s) (keep has frames) part))

  -- So such a set has all triangles or none.
  pub connected : All (λ b. b ≡ true) s ⊎ All (λ b. b ≡ false) s
  unfolding net
  connected = ⊎_elim
      (λ h. inl (zero_full table area once s fits (λ e. simp zify (omega (arith, simp zify at (h e), simp zify at (framed e), both table area once s fits e, both table area once s fits (flip e))))))
      (λ h. inr (zero_empty table area once s fits h))
      round_or_nowhere
