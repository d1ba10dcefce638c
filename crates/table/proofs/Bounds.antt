-- Corners as held numbers: the order of their coordinates, their points, and the corners of a table of them.
-- The idea: what was added to each coordinate keeps the order, so that the lower held number is the smaller coordinate. Assumes nothing.
use mathlib.Core.Path.{◌≡◌, refl, sym, ap, ap₂, subst}
use mathlib.Core.Bool.{Bool, true, false, cond}
use mathlib.Core.List.{List, [], ◌∷◌, flat_map}
use Prim.Native.Nat.{ℕ, zero, suc, ◌*◌, ◌^◌, ◌≤◌, ◌<◌}
use native.Mathlib.Omega.{arith}
use lib.Dec.{T}
use lib.IntN.{ℤ}
use lib.Signed.{le_z, le_z_yes, ◌≤ℤ◌}
use lib.ListN.{length}
use Rattle.whole.specs.Numbers.{smaller, greater}
use Rattle.whole.proofs.Int.{⊖-le, ≤_antisym, ◌⊖◌}
use Rattle.whole.proofs.Tests.{by_test}
use Rattle.plane.specs.declared.Corner.{Corner}
use Rattle.plane.specs.Corners.{millimetres}
use Rattle.plane.specs.Keys.{point, InRange, key_of, corner_of, point_at, points_at, Key}
use Rattle.table.specs.Table.{corners}
use Rattle.table.specs.Sides.{triangles_of}

-- ---- held numbers in the order of their coordinates
-- A lower held number is a lower coordinate.
pub millimetres_le : (m n : ℕ) → m ≤ n → millimetres m ≤ℤ millimetres n
unfolding ◌⊖◌
millimetres_le m n h = (⊖-le m 10_000_000 n 10_000_000).1 (omega arith)

-- Of two numbers in order the first is the smaller, the second the greater.
pub in_order : (z w : ℤ) → z ≤ℤ w → (z ≡ smaller z w) × (w ≡ greater z w)
unfolding smaller greater
in_order z w h = go (le_z z w) h.le
  where
    go : (b : Bool) → T b → (z ≡ cond b z w) × (w ≡ cond b w z)
    go true t = (refl, refl)
    go false t = absurd t

-- Of two numbers out of order the second is the smaller, the first the greater.
pub out_of_order : (z w : ℤ) → w ≤ℤ z → (w ≡ smaller z w) × (z ≡ greater z w)
unfolding smaller greater
out_of_order z w h = (by_test (λ v. w ≡ v) (le_z z w) z w same (λ t. refl), by_test (λ v. z ≡ v) (le_z z w) w z (λ t. sym (same t)) (λ t. refl))
  where
    same : T (le_z z w) → w ≡ z
    same t = ≤_antisym w z h (le_z_yes t)

-- ---- corners and their numbers
-- The corner of a corner's number.
corner_back : (c : Corner) → c.y < 2 ^ 32 → corner_of (key_of c) ≡ c
corner_back c h = ap₂ (λ x y. record { x = x; y = y }) (omega arith) (omega arith)

-- A corner with coordinates from -10,000,000 to 10,000,000 has such a number, and the number stands for its point.
pub key_of_lem : (c : Corner) → InRange c → Key (key_of c) × (point_at (key_of c) ≡ point c)
unfolding point_at
key_of_lem c h = let e = corner_back c (omega (arith, h.y)) in (subst InRange (sym e) h, ap point e)

-- The corners of the triangles are all the corners.
pub corners_points : (n : ℕ) (keys : List ℕ) → length keys ≡ 3 * n → corners (triangles_of keys) ≡ points_at keys
unfolding flat_map
corners_points zero [] h = refl
corners_points zero (a ∷ keys) h = absurd (omega arith)
corners_points (suc n) [] h = absurd (omega arith)
corners_points (suc n) (a ∷ []) h = absurd (omega arith)
corners_points (suc n) (a ∷ b ∷ []) h = absurd (omega arith)
corners_points (suc n) (a ∷ b ∷ c ∷ keys) h = ap (λ l. point_at a ∷ point_at b ∷ point_at c ∷ l) (corners_points n keys (omega arith))
