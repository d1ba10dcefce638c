-- The side that `follower` answers by number is the one that follows. The idea: what is met first is a boundary side, and none that leaves there is sharper; and there are no
-- ties. Assumes nothing.
use mathlib.Core.Path.{◌≡◌, refl, sym, ◌∙◌, ap, subst}
use mathlib.Core.Bool.{Bool, true, false, not, cond}
use mathlib.Core.List.{List, [], ◌∷◌, map}
use Prim.Native.Nat.{ℕ, zero, suc, ◌+◌, ◌*◌, ◌/◌, ◌≤◌, ◌<◌}
use native.Mathlib.Omega.{arith}
use native.Mathlib.Decide.{ℕ_discrete}
use lib.Dec.{T, eqb}
use lib.ListN.{length, get_or, length-map}
use Rattle.whole.specs.Sums.{All, Among, bit, count, passing}
use Rattle.whole.proofs.Sums.{all_map, all_counted, and_left, bit_yes}
use Rattle.plane.specs.Points.{Edge, same_edge}
use Rattle.plane.specs.Boundaries.{sides_of}
use Rattle.plane.proofs.Points.{same_edge-eq, same_edge-refl}
use Rattle.whole_signs.proofs.Signs.{by_T}
use Rattle.plane_turning.specs.Turning.{sharper, following}
use Rattle.plane_turning.proofs.Rays.{wedge}
use Rattle.plane_turning.proofs.Following.{Follows}
use Rattle.table.specs.Table.{frame_edges, RuleA, RuleB, RuleC}
use Rattle.table.specs.Sets.{SetOf, chosen}
use Rattle.table.specs.Sides.{triangles_of, side_at}
use Rattle.table.specs.Opposites.{opposites}
use Rattle.table.proofs.Shares.{length_triangles, length_opposites}
use Rattle.table_fans.proofs.Fans.{NoWedge}
use Rattle.repair_regions.specs.Regions.{from}
use Rattle.repair_sides.specs.Sides.{boundary_sides, owned_by, triangles_owned}
use Rattle.repair_sides.specs.Numbered.{owns_across, bounds}
use Rattle.repair_sides.proofs.Bounding.{by_number, owned_at}
use Rattle.repair_rings.proofs.Injective.{quiet, next, one_follows}
use Rattle.repair_follower.specs.Follower.{side_before, own_side, follower}
use Rattle.repair_sweep.proofs.Places.{corner, fan_at}
use Rattle.repair_sweep.proofs.Sweep.{follower_met}

-- ---- numbers that pass a test
module _ (test : ℕ → Bool) (f : ℕ → Edge) where
  abbrev listed_from : ℕ → ℕ → List Edge
  listed_from i m = map f (passing test (from i m))

  passing_has : (m i k : ℕ) → i ≤ k → k < i + m → test k ≡ true → Among same_edge (f k) (listed_from i m)
  passing_has zero i k g h t = absurd (omega arith)
  passing_has (suc m) i k g h t = go (test i) refl (ℕ_discrete i k) (passing_has m (suc i) k)
    where
      go : (b : Bool) → test i ≡ b → Dec (i ≡ k) → (suc i ≤ k → k < suc i + m → test k ≡ true → Among same_edge (f k) (listed_from (suc i) m))
          → Among same_edge (f k) (map f (cond b (i ∷ passing test (from (suc i) m)) (passing test (from (suc i) m))))
      go true e (yes q) r = omega (arith, bit_yes (same_edge (f i) (f k)) (subst (λ x. T (same_edge (f i) (f x))) q (same_edge-refl (f i))))
      go true e (no q) r = omega (arith, r (omega arith) (omega arith) t)
      go false e (yes q) r = absurd (omega (arith, ap bit (sym e ∙ ap test q ∙ t)))
      go false e (no q) r = r (omega arith) (omega arith) t

  passing_only : (m i : ℕ) (x : Edge) → Among same_edge x (listed_from i m) → (j : ℕ) × (j < i + m) × (test j ≡ true) × (f j ≡ x)
  passing_only zero i x h = absurd (omega arith)
  passing_only (suc m) i x h = go (test i) refl h (passing_only m (suc i) x)
    where
      later : ((j : ℕ) × (j < suc i + m) × (test j ≡ true) × (f j ≡ x)) → (j : ℕ) × (j < i + suc m) × (test j ≡ true) × (f j ≡ x)
      later r = (r.0, omega (arith, r.1), r.2, r.3)

      go : (b : Bool) → test i ≡ b → Among same_edge x (map f (cond b (i ∷ passing test (from (suc i) m)) (passing test (from (suc i) m))))
          → (Among same_edge x (listed_from (suc i) m) → (j : ℕ) × (j < suc i + m) × (test j ≡ true) × (f j ≡ x)) → (j : ℕ) × (j < i + suc m) × (test j ≡ true) × (f j ≡ x)
      go true e h r = at (same_edge (f i) x) (same_edge-eq (f i) x) h
        where
          at : (c : Bool) → (T c → f i ≡ x) → 1 ≤ bit c + count same_edge x (listed_from (suc i) m) → (j : ℕ) × (j < i + suc m) × (test j ≡ true) × (f j ≡ x)
          at true q h = (i, omega arith, e, q tt)
          at false q h = later (r (omega arith))
      go false e h r = later (r h)

-- What holds of all marked members holds of each.
chosen_at : {A : Type 0} (P : A → Type 0) (l : List A) (s : List Bool) (d : A) (i : ℕ) → All P (chosen l s) → i < length l → get_or s i false ≡ true → P (get_or l i d)
chosen_at P [] s d i a h e = absurd (omega arith)
chosen_at P (x ∷ l) [] d i a h e = absurd (omega (arith, ap bit e))
chosen_at P (x ∷ l) (true ∷ s) d zero a h e = a.0
chosen_at P (x ∷ l) (false ∷ s) d zero a h e = absurd (omega (arith, ap bit e))
chosen_at P (x ∷ l) (true ∷ s) d (suc i) a h e = chosen_at P l s d i a.1 (omega arith) e
chosen_at P (x ∷ l) (false ∷ s) d (suc i) a h e = chosen_at P l s d i a (omega arith) e

-- The polygon's triangles are a set of the table's.
pub owned_set : (keys : List ℕ) (n : ℕ) → length keys ≡ 3 * n → (owners : List ℕ) → length owners ≡ n → (p : ℕ) → SetOf (triangles_of keys) (owned_by p owners)
owned_set keys n whole owners fits p = length-map owners (λ o. eqb o p) ∙ fits ∙ sym (length_triangles keys n whole)

module _ (keys : List ℕ) (n : ℕ) (whole : length keys ≡ 3 * n) (area : RuleA (triangles_of keys)) (once : RuleB (triangles_of keys))
    (framed : RuleC (frame_edges (triangles_of keys)) (triangles_of keys)) (owners : List ℕ) (fits : length owners ≡ n) (p : ℕ) where
  abbrev side : ℕ → Edge
  side = side_at keys

  abbrev opposite : List ℕ
  opposite = opposites (sides_of (triangles_of keys))

  abbrev bound : List Edge
  bound = boundary_sides (triangles_owned (triangles_of keys) owners p)

  abbrev Bounding : ℕ → Type 0
  Bounding j = (j < length keys) × (bounds opposite owners p j ≡ true)

  many : length opposite ≡ length keys
  many = length_opposites keys n whole

  abbrev marks : SetOf (triangles_of keys) (owned_by p owners)
  marks = owned_set keys n whole owners fits p

  pub bound_listed : (k : ℕ) → Bounding k → Among same_edge (side k) bound
  bound_listed k b = subst (Among same_edge (side k)) (sym (by_number keys n whole once owners fits p)) (passing_has (bounds opposite owners p) side (length opposite) 0 k (omega arith) (omega (arith, b.0, many)) b.1)

  pub bound_number : (x : Edge) → Among same_edge x bound → (j : ℕ) × Bounding j × (side j ≡ x)
  bound_number x h =
      let r = passing_only (bounds opposite owners p) side (length opposite) 0 x (subst (Among same_edge x) (by_number keys n whole once owners fits p) h) in
      (r.0, (omega (arith, r.1, many), r.2), r.3)

  -- No wedge of the polygon's triangles holds the ray along which a boundary side arrives.
  away : (k : ℕ) → Bounding k → (j : ℕ) → Bounding j → (side j).from ≡ (side k).to → T (not (wedge (side k).to (side j).to (side (side_before j)).from (side k).from))
  away k b j i e = subst (λ z. T (not (wedge z (side j).to (side (side_before j)).from (side k).from))) e ((fan_at keys n whole area j i.0).quiet (side k).from
      (subst (λ z. NoWedge z (side k).from (get_or (triangles_of keys) (j / 3) corner)) (sym e)
      (chosen_at (NoWedge (side k).to (side k).from) (triangles_of keys) (owned_by p owners) corner (j / 3) (quiet (triangles_of keys) area once framed (owned_by p owners) marks (side k) (bound_listed k b))
      (omega (arith, i.0, whole, length_triangles keys n whole)) (owned_at p owners (j / 3) (omega (arith, i.0, whole, fits)) ∙ own))))
    where
      own : own_side owners p j ≡ true
      own = by_T (own_side owners p j) (and_left (own_side owners p j) (not (owns_across owners p (get_or opposite j 0))) (rw i.1 tt))

  pub follower_follows : (k : ℕ) → Bounding k → Follows bound (side k) (side (follower opposite owners p k))
  follower_follows k b = let m = follower_met keys n whole area once framed owners fits p k b (away k b) in record {
    listed = bound_listed (follower opposite owners p k) m.0;
    joined = m.1;
    sharp = all_map (λ x. Among same_edge x bound) (λ d. d.from ≡ (side k).to → T (not (sharper (side k).from (side k).to d.to (side (follower opposite owners p k)).to)))
        (λ x h q. let r = bound_number x h in subst (λ d. T (not (sharper (side k).from (side k).to d.to (side (follower opposite owners p k)).to))) r.2 (m.2 r.0 r.1 (ap (λ z. z.from) r.2 ∙ q)))
        bound (all_counted same_edge same_edge-eq same_edge-refl bound);
  }

  pub follower_bounds : (k : ℕ) → Bounding k → Bounding (follower opposite owners p k)
  follower_bounds k b = (follower_met keys n whole area once framed owners fits p k b (away k b)).0

  -- So it is the one that follows.
  pub follower_is : (k : ℕ) → Bounding k → side (follower opposite owners p k) ≡ following bound (side k)
  follower_is k b = one_follows (triangles_of keys) area once framed (owned_by p owners) marks (side k) (side (follower opposite owners p k)) (following bound (side k)) (bound_listed k b) (follower_follows k b)
      (next (triangles_of keys) area once framed (owned_by p owners) marks (side k) (bound_listed k b))
