-- The pieces of an edge, one after the other, along ascending corners. The idea: the first corner in ascending order that is strictly
-- between u and the edge's end has none strictly between u and itself, since such a one would stand before it; so it ends the next piece.
-- Assumes nothing.
use mathlib.Core.Path.{◌≡◌, sym, ap, subst}
use mathlib.Core.Bool.{Bool, true, false}
use mathlib.Core.List.{List, [], ◌∷◌}
use Prim.Native.Nat.{ℕ, zero, suc, ◌+◌, ◌≤◌, ◌<◌}
use native.Mathlib.Omega.{arith}
use native.Mathlib.Decide.{dec_le, ℕ_discrete}
use lib.Dec.{T}
use lib.ListN.{length, get_or}
use Rattle.whole.specs.Sums.{bit, count, Among}
use Rattle.whole.proofs.Sums.{bit_yes}
use Rattle.plane.specs.Points.{Point, same_point, between}
use Rattle.plane.specs.Cuts.{pieces}
use Rattle.plane.specs.Keys.{point_at, pair, points_at}
use Rattle.plane.proofs.Points.{same_point-eq, same_point-refl}
use Rattle.plane.proofs.Keys.{point_at-injective, between_order}
use Rattle.plane.proofs.Ways.{between_first, next_piece, last_piece}
use Rattle.whole_order.specs.Ascending.{Ascending, place_of}
use Rattle.whole_order.proofs.Ascending.{ascending_below, place_below}
use Rattle.table_count.specs.Counting.{NextStop, ClearOf}

-- A point among those of the corners is the point of a corner.
pub among_corner : (corners : List ℕ) (c : Point) → Among same_point c (points_at corners) → (j : ℕ) × (j < length corners) × (point_at (get_or corners j 0) ≡ c)
among_corner [] c h = absurd (omega arith)
among_corner (x ∷ l) c h = go (same_point (point_at x) c) (same_point-eq (point_at x) c) (among_corner l c) h
  where
    go : (b : Bool) → (T b → point_at x ≡ c) → (1 ≤ count same_point c (points_at l) → (j : ℕ) × (j < length l) × (point_at (get_or l j 0) ≡ c)) → 1 ≤ bit b + count same_point c (points_at l)
        → (j : ℕ) × (j < suc (length l)) × (point_at (get_or (x ∷ l) j 0) ≡ c)
    go true e r h = (0, omega arith, e tt)
    go false e r h = let w = r (omega arith) in (suc w.0, omega (arith, w.1), w.2)

pub corner_among : (corners : List ℕ) (j : ℕ) → j < length corners → Among same_point (point_at (get_or corners j 0)) (points_at corners)
corner_among [] j h = absurd (omega arith)
corner_among (x ∷ l) zero h = omega (arith, bit_yes (same_point (point_at x) (point_at x)) (same_point-refl (point_at x)))
corner_among (x ∷ l) (suc j) h = omega (arith, corner_among l j (omega arith))

-- No corner before the place is strictly between u and v.
abbrev pub NoneBefore : List ℕ → ℕ → ℕ → ℕ → Type 0
NoneBefore corners at u v = (j : ℕ) → j < at → j < length corners → T (between (point_at (get_or corners j 0)) (pair u v)) → ⊥

module _ (corners : List ℕ) (order : Ascending corners) (u v : ℕ) (way : u < v) where
  -- So it is at the place where u stands or would stand.
  pub none_before : NoneBefore corners (place_of u corners) u v
  none_before j h k t = omega (arith, place_below corners u j order h, (between_order (get_or corners j 0) u v way t).0)

  module _ (at r : ℕ) (none : NoneBefore corners at u v) (stop : NextStop corners at u v r) where
    -- No corner before r is strictly between.
    before_stop : NoneBefore corners r u v
    before_stop j h k t = go (dec_le at j)
      where
        go : Dec (at ≤ j) → ⊥
        go (yes l) = stop.first j l h t
        go (no n) = none j (omega arith) k t

    -- There is a next corner: the piece ends there,
    module _ (there : r < length corners) where
      pub stop_within : (u < get_or corners r 0) × (get_or corners r 0 < v)
      stop_within = between_order (get_or corners r 0) u v way (stop.stop there)

      pub stop_clear : ClearOf corners u (get_or corners r 0)
      stop_clear d m t =
          let w = among_corner corners d m in
          let t' : T (between (point_at (get_or corners w.0 0)) (pair u (get_or corners r 0))) = subst (λ z. T (between z (pair u (get_or corners r 0)))) (sym w.2) t in
          let o = (between_order (get_or corners w.0 0) u (get_or corners r 0) stop_within.0 t').1 in
          before_stop w.0 (earlier w.0 w.1 o) w.1
          (between_first (point_at (get_or corners r 0)) (point_at (get_or corners w.0 0)) (point_at u) (point_at v) (stop.stop there) t')
        where
          earlier : (j : ℕ) → j < length corners → get_or corners j 0 < get_or corners r 0 → j < r
          earlier j l o = go (dec_le r j)
            where
              go : Dec (r ≤ j) → j < r
              go (yes h) = absurd (same (ℕ_discrete r j))
                where
                  same : Dec (r ≡ j) → ⊥
                  same (yes e) = let q : get_or corners r 0 ≡ get_or corners j 0 = ap (λ z. get_or corners z 0) e in omega arith
                  same (no n) = omega (arith, ascending_below corners r j order (omega arith) l)
              go (no h) = omega arith

      pub stop_piece : pieces (points_at corners) (pair u v) ≡ pair u (get_or corners r 0) ∷ pieces (points_at corners) (pair (get_or corners r 0) v)
      stop_piece = next_piece (points_at corners) (point_at u) (point_at (get_or corners r 0)) (point_at v) (corner_among corners r there) (stop.stop there) stop_clear

      -- and the walk goes on from it.
      pub stop_onward : NoneBefore corners r (get_or corners r 0) v
      stop_onward j h k t = omega (arith, ascending_below corners j r order h there, (between_order (get_or corners j 0) (get_or corners r 0) v stop_within.1 t).0)

    -- There is none: the piece ends at the edge's end.
    module _ (past : length corners ≤ r) where
      pub end_clear : ClearOf corners u v
      end_clear d m t = let w = among_corner corners d m in before_stop w.0 (omega (arith, w.1)) w.1 (subst (λ z. T (between z (pair u v))) (sym w.2) t)

      pub end_piece : pieces (points_at corners) (pair u v) ≡ pair u v ∷ []
      end_piece = last_piece (points_at corners) (point_at u) (point_at v) (λ e. let q = point_at-injective u v e in omega arith) end_clear
