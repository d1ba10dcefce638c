-- The sides of a table by number, round a corner: the side before a side ends where that begins, the two have a wedge of their triangle between them, and no two
-- triangles of a table that passes the rules hold one ray. Assumes nothing.
use mathlib.Core.Path.{◌≡◌, refl, sym, ◌∙◌, ap, subst}
use mathlib.Core.List.{List, [], ◌∷◌}
use Prim.Native.Nat.{ℕ, zero, suc, ◌*◌, ◌-◌, ◌/◌, ◌≤◌, ◌<◌}
use native.Mathlib.Omega.{arith}
use native.Mathlib.Decide.{ℕ_discrete}
use lib.IntN.{pos}
use lib.ListN.{length, get_or}
use lib.Signed.{◌<ℤ◌}
use Rattle.whole.specs.Sums.{count}
use Rattle.whole.proofs.Sums.{all_at}
use Rattle.plane.specs.Points.{Point, Triangle, sides, same_edge, double}
use Rattle.plane.specs.Keys.{point_at}
use Rattle.plane_winding.proofs.Winding.{dot}
use Rattle.lent_little.specs.Held.{end_of}
use Rattle.table.specs.Table.{frame_edges, RuleA, RuleC}
use Rattle.table.specs.Sides.{triangles_of, tails_of, side_at}
use Rattle.table.proofs.Shares.{own_side_lem, length_triangles}
use Rattle.table_fans.proofs.Turned.{meets, one_round}
use Rattle.table_fans.proofs.Fans.{Fan, corner_fan, two_parts}
use Rattle.repair_follower.specs.Follower.{side_before}

-- The corner at which a side ends.
pub tail_is : (keys : List ℕ) (n : ℕ) → length keys ≡ 3 * n → (k : ℕ) → k < length keys → get_or (tails_of keys) k 0 ≡ get_or keys (end_of k) 0
tail_is [] n e k h = absurd (omega arith)
tail_is (a ∷ []) n e k h = absurd (omega arith)
tail_is (a ∷ b ∷ []) n e k h = absurd (omega arith)
tail_is (a ∷ b ∷ c ∷ l) n e zero h = refl
tail_is (a ∷ b ∷ c ∷ l) n e (suc zero) h = refl
tail_is (a ∷ b ∷ c ∷ l) n e (suc (suc zero)) h = refl
tail_is (a ∷ b ∷ c ∷ l) n e (suc (suc (suc k))) h =
    let z : suc (suc (suc (end_of k))) ≡ end_of (suc (suc (suc k))) = omega arith in
    tail_is l (n - 1) (omega arith) k (omega arith) ∙ ap (λ i. get_or (a ∷ b ∷ c ∷ l) i 0) z

pub corner : Triangle
corner = record { a = point_at 0; b = point_at 0; c = point_at 0 }

-- ---- numbers of sides
-- Three sides on, the same of the next triangle.
end_next : (k : ℕ) → end_of (suc (suc (suc k))) ≡ suc (suc (suc (end_of k)))
end_next k = omega arith

before_next : (k : ℕ) → side_before (suc (suc (suc k))) ≡ suc (suc (suc (side_before k)))
before_next k = omega arith

pub end_before : (k : ℕ) → end_of (side_before k) ≡ k
end_before zero = refl
end_before (suc zero) = refl
end_before (suc (suc zero)) = refl
end_before (suc (suc (suc k))) = ap end_of (before_next k) ∙ end_next (side_before k) ∙ ap (λ i. suc (suc (suc i))) (end_before k)

pub before_end : (k : ℕ) → side_before (end_of k) ≡ k
before_end zero = refl
before_end (suc zero) = refl
before_end (suc (suc zero)) = refl
before_end (suc (suc (suc k))) = ap side_before (end_next k) ∙ before_next (end_of k) ∙ ap (λ i. suc (suc (suc i))) (before_end k)

module _ (keys : List ℕ) (n : ℕ) (whole : length keys ≡ 3 * n) where
  pub before_in : (k : ℕ) → k < length keys → side_before k < length keys
  before_in k h = omega (arith, whole)

  pub end_in : (k : ℕ) → k < length keys → end_of k < length keys
  end_in k h = omega (arith, whole)

  pub joined_end : (k : ℕ) → k < length keys → (side_at keys (end_of k)).from ≡ (side_at keys k).to
  joined_end k h = ap point_at (sym (tail_is keys n whole k h))

  pub joined_before : (k : ℕ) → k < length keys → (side_at keys (side_before k)).to ≡ (side_at keys k).from
  joined_before k h = ap point_at (tail_is keys n whole (side_before k) (before_in k h)) ∙ ap (λ i. point_at (get_or keys i 0)) (end_before k)

  -- ---- wedges
  module _ (area : RuleA (triangles_of keys)) where
    place : (k : ℕ) → k < length keys → k / 3 < length (triangles_of keys)
    place k h = omega (arith, whole, length_triangles keys n whole)

    -- The wedge at which side k leaves, up to the side before it.
    pub fan_at : (k : ℕ) → k < length keys → Fan (get_or (triangles_of keys) (k / 3) corner) (side_at keys k).from (side_at keys k).to (side_at keys (side_before k)).from
    fan_at k h = corner_fan (get_or (triangles_of keys) (k / 3) corner) (all_at (λ t. pos 0 <ℤ double t) corner (triangles_of keys) (k / 3) area (place k h))
        (side_at keys k) (side_at keys (side_before k)) (own_side_lem keys n whole corner k h)
        (subst (λ i. 1 ≤ count same_edge (side_at keys (side_before k)) (sides (get_or (triangles_of keys) i corner))) same (own_side_lem keys n whole corner (side_before k) (before_in k h)))
        (joined_before k h)
      where
        same : side_before k / 3 ≡ k / 3
        same = omega arith

    -- One triangle at most holds a ray.
    pub only_one : RuleC (frame_edges (triangles_of keys)) (triangles_of keys) → (v x : Point) → pos 0 <ℤ dot v x x → (j k : ℕ) → j < length keys → k < length keys
        → meets v x (get_or (triangles_of keys) (j / 3) corner) ≡ 1 → meets v x (get_or (triangles_of keys) (k / 3) corner) ≡ 1 → j / 3 ≡ k / 3
    only_one framed v x some j k h i p q = go (ℕ_discrete (j / 3) (k / 3))
      where
        go : Dec (j / 3 ≡ k / 3) → j / 3 ≡ k / 3
        go (yes e) = e
        go (no e) = absurd (omega (arith, two_parts (meets v x) (triangles_of keys) corner (j / 3) (k / 3) (place j h) (place k i) e, one_round (triangles_of keys) area framed v x some))
