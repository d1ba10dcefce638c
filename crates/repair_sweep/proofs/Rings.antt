-- The rings by number that the code lays down are the rings of the polygon's boundary sides. Assumes nothing.
use mathlib.Core.Path.{◌≡◌, refl, sym, ◌∙◌, ap}
use mathlib.Core.Bool.{Bool, true, false, cond}
use mathlib.Core.List.{List, [], ◌∷◌, map}
use Prim.Native.Nat.{ℕ, zero, suc, ◌+◌, ◌*◌, ◌<◌}
use native.Mathlib.Omega.{arith}
use lib.ListN.{length, length-map}
use Rattle.whole.specs.Sums.{All, passing}
use Rattle.whole.proofs.Sums.{all_map}
use Rattle.plane.specs.Points.{Edge}
use Rattle.plane.specs.Boundaries.{sides_of}
use Rattle.table.specs.Table.{frame_edges, RuleA, RuleB, RuleC}
use Rattle.table.specs.Sets.{SetOf}
use Rattle.table.specs.Sides.{triangles_of, side_at}
use Rattle.table.specs.Opposites.{opposites}
use Rattle.table.proofs.Shares.{length_opposites, side_once}
use Rattle.repair_regions.specs.Regions.{from}
use Rattle.repair_sides.specs.Sides.{boundary_sides, owned_by, triangles_owned}
use Rattle.repair_sides.specs.Numbered.{bounds, boundary_numbers}
use Rattle.repair_sides.proofs.Bounding.{by_number}
use Rattle.repair_rings.specs.Rings.{rings, rings_over}
use Rattle.repair_rings.proofs.Injective.{next, injective}
use Rattle.repair_rings.proofs.Rings.{found_in_turn}
use Rattle.repair_follower.specs.Follower.{follower}
use Rattle.repair_ring_walk.specs.Walk.{ring_numbers}
use Rattle.repair_ring_walk.proofs.Members.{rings_in_lem}
use Rattle.repair_sweep.proofs.Following.{owned_set, bound_listed, follower_bounds, follower_is}
use Rattle.repair_sweep.proofs.Numbers.{rings_numbered}

passing_all : (test : ℕ → Bool) (m i : ℕ) → All (λ j. (j < i + m) × (test j ≡ true)) (passing test (from i m))
passing_all test zero i = tt
passing_all test (suc m) i = go (test i) refl (all_map (λ j. (j < suc i + m) × (test j ≡ true)) (λ j. (j < i + suc m) × (test j ≡ true)) (λ j h. (omega (arith, h.0), h.1)) (passing test (from (suc i) m)) (passing_all test m (suc i)))
  where
    go : (b : Bool) → test i ≡ b → All (λ j. (j < i + suc m) × (test j ≡ true)) (passing test (from (suc i) m))
        → All (λ j. (j < i + suc m) × (test j ≡ true)) (cond b (i ∷ passing test (from (suc i) m)) (passing test (from (suc i) m)))
    go true e h = ((omega arith, e), h)
    go false e h = h

module _ (keys : List ℕ) (n : ℕ) (whole : length keys ≡ 3 * n) (area : RuleA (triangles_of keys)) (once : RuleB (triangles_of keys))
    (framed : RuleC (frame_edges (triangles_of keys)) (triangles_of keys)) (owners : List ℕ) (fits : length owners ≡ n) (p : ℕ) where
  abbrev opposite : List ℕ
  opposite = opposites (sides_of (triangles_of keys))

  abbrev bound : List Edge
  bound = boundary_sides (triangles_owned (triangles_of keys) owners p)

  abbrev numbers : List ℕ
  numbers = boundary_numbers opposite owners p

  abbrev pub Bounding : ℕ → Type 0
  Bounding j = (j < length keys) × (bounds opposite owners p j ≡ true)

  abbrev marks : SetOf (triangles_of keys) (owned_by p owners)
  marks = owned_set keys n whole owners fits p

  all_bound : All Bounding numbers
  all_bound = all_map (λ j. (j < 0 + length opposite) × (bounds opposite owners p j ≡ true)) Bounding (λ j h. (omega (arith, h.0, length_opposites keys n whole), h.1)) numbers
      (passing_all (bounds opposite owners p) (length opposite) 0)

  as_many : length bound ≡ length numbers
  as_many = ap length (by_number keys n whole once owners fits p) ∙ length-map numbers (side_at keys)

  -- Each side of the rings by number is a boundary side of the polygon's, so it is one of the table's.
  pub rings_bound : All (All Bounding) (ring_numbers (length numbers) (follower opposite owners p) [] numbers)
  rings_bound =
      rings_in_lem Bounding (follower opposite owners p) (follower_bounds keys n whole area once framed owners fits p) (length numbers) [] numbers all_bound

  pub rings_by_number : map (map (side_at keys)) (ring_numbers (length numbers) (follower opposite owners p) [] numbers) ≡ rings bound
  rings_by_number =
      rings_numbered Bounding (side_at keys) (follower opposite owners p) bound (λ j k b c. side_once keys n whole once j k b.0 c.0)
      (follower_bounds keys n whole area once framed owners fits p) (follower_is keys n whole area once framed owners fits p) (bound_listed keys n whole area once framed owners fits p)
      (λ e h. (next (triangles_of keys) area once framed (owned_by p owners) marks e h).listed) (injective (triangles_of keys) area once framed (owned_by p owners) marks)
      (length numbers) [] numbers tt all_bound (omega (arith, as_many)) (λ x. omega arith) (λ x h. absurd (omega arith))
      ∙ ap (rings_over bound []) (sym (by_number keys n whole once owners fits p))
      ∙ found_in_turn (triangles_of keys) area once framed (owned_by p owners) marks
