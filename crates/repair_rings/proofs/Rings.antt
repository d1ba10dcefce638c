-- The rings of the boundary sides of a set of triangles, in a table that passes the rules: each boundary side is in exactly one ring, once; each ring is closed, has at
-- least three sides and none twice; and there are at most a third as many rings as sides. Assumes nothing.
use mathlib.Core.Path.{◌≡◌, refl, sym, ◌∙◌, ap, ap₂, subst}
use mathlib.Core.Bool.{Bool}
use mathlib.Core.List.{List, [], ◌∷◌, ◌++◌, map, flat_map}
use Prim.Native.Nat.{ℕ, zero, suc, ◌+◌, ◌*◌, ◌≤◌}
use native.Mathlib.Omega.{arith}
use native.Mathlib.Decide.{dec_le}
use lib.ListN.{length, length-append, length-map}
use Rattle.whole.specs.Sums.{All, Among, count, net}
use Rattle.whole.proofs.Sums.{all_map, all_counted}
use Rattle.plane.specs.Points.{Point, Edge, Triangle, ◌⟶◌, flip, same_edge}
use Rattle.plane.specs.Boundaries.{SameBoundary, sides_of}
use Rattle.plane.specs.Members.{edges}
use Rattle.plane.proofs.Points.{same_edge-eq, same_edge-refl}
use Rattle.plane.proofs.Chains.{Chain}
use Rattle.table.specs.Table.{frame_edges, RuleA, RuleB, RuleC}
use Rattle.table.specs.Sets.{SetOf, chosen}
use Rattle.table.proofs.Sets.{tally}
use Rattle.table.proofs.Shares.{fewer_sides}
use Rattle.repair_sides.specs.Sides.{boundary_sides}
use Rattle.repair_sides.proofs.Bounding.{same_boundary}
use Rattle.plane_turning.specs.Turning.{following}
use Rattle.repair_rings.specs.Rings.{ring_of, rings, rings_over, joined, points_of, lines}
use Rattle.plane_turning.proofs.Following.{Follows}
use Rattle.repair_rings.proofs.Injective.{bound_once, bound_side, next, injective, side_apart}
use Rattle.repair_rings.proofs.Cycles.{#, fits, after, path, length_path, Ring, ring, Partition, ring_partition}
use Rattle.repair_rings.proofs.Earliest.{in_turn}

-- A closed way of three sides or more, with no side twice.
pub record ClosedRing (r : List Edge) : Type 0 where
  pub start : Point
  pub closed : Chain start start r
  pub three : 3 ≤ length r
  pub single : (x : Edge) → count same_edge x r ≤ 1

thrice : (rs : List (List Edge)) → All ClosedRing rs → 3 * length rs ≤ length (joined rs)
unfolding flat_map
thrice [] h = omega arith
thrice (r ∷ rs) h = omega (arith, h.0.three, thrice rs h.1, length-append r (joined rs))

-- ---- rings as lists of points
way : (p q : Point) (l : List Edge) → Chain p q l → edges (p ∷ map (λ d. d.to) l) ≡ l
way p q [] h = refl
way p q (e ∷ l) h = λ i. (sym h.0 i ⟶ e.to) ∷ way e.to q l h.1 i

pub line_edges : (r : List Edge) → ClosedRing r → edges (points_of r) ≡ r
line_edges [] h = refl
line_edges (e ∷ r) h = way e.from h.start (e ∷ r) (refl, h.closed.1)

line_length : (r : List Edge) → ClosedRing r → length (points_of r) ≡ suc (length r)
line_length [] h = absurd (omega (arith, h.three))
line_length (e ∷ r) h = omega (arith, length-map (e ∷ r) (λ d. d.to))

all_edges : (rs : List (List Edge)) → All ClosedRing rs → flat_map edges (map points_of rs) ≡ joined rs
unfolding flat_map
all_edges [] h = refl
all_edges (r ∷ rs) h = ap₂ ◌++◌ (line_edges r h.0) (all_edges rs h.1)

all_points : (rs : List (List Edge)) → All ClosedRing rs → tally length (map points_of rs) ≡ length (joined rs) + length rs
unfolding tally flat_map
all_points [] h = omega arith
all_points (r ∷ rs) h = omega (arith, line_length r h.0, all_points rs h.1, length-append r (joined rs))

module _ (table : List Triangle) (area : RuleA table) (once : RuleB table) (framed : RuleC (frame_edges table) table) (s : List Bool) (fit : SetOf table s) where
  abbrev bound : List Edge
  bound = boundary_sides (chosen table s)

  abbrev f : Edge → Edge
  f = following bound

  to_next : (e : Edge) → Among same_edge e bound → Follows bound e (f e)
  to_next = next table area once framed s fit

  stays : (e : Edge) → Among same_edge e bound → Among same_edge (f e) bound
  stays e h = (to_next e h).listed

  apart : (e d : Edge) → Among same_edge e bound → Among same_edge d bound → f e ≡ f d → e ≡ d
  apart = injective table area once framed s fit

  -- The rings as a program finds them.
  pub found_in_turn : rings_over bound [] bound ≡ rings bound
  found_in_turn = in_turn bound stays apart (bound_once table area once framed s fit)

  parted : Partition bound stays apart [] bound (rings bound)
  parted = subst (Partition bound stays apart [] bound) (found_in_turn) (ring_partition bound stays apart)

  -- The sides of the rings are the boundary sides, each once.
  pub each_once : (x : Edge) → count same_edge x (joined (rings bound)) ≡ count same_edge x bound
  each_once x = go (dec_le 1 (# x bound)) (dec_le 1 (# x (joined (rings bound))))
    where
      go : Dec (1 ≤ # x bound) → Dec (1 ≤ # x (joined (rings bound))) → # x (joined (rings bound)) ≡ # x bound
      go (yes p) d = omega (arith, parted.most x, parted.all x p, bound_once table area once framed s fit x)
      go (no p) (no q) = omega arith
      go (no p) (yes q) = absurd (p (parted.inside x q))

  -- ---- a ring is closed
  chain_path : (k : ℕ) (e : Edge) → Among same_edge e bound → Chain e.from (after bound (suc k) e).from (path bound (suc k) e)
  chain_path zero e h = (refl, sym (to_next e h).joined)
  chain_path (suc k) e h = (refl, subst (λ z. Chain z (after bound (suc k) (f e)).from (path bound (suc k) (f e))) (to_next e h).joined (chain_path k (f e) (stays e h)))

  -- ---- it has three sides
  not_one : (e : Edge) → Among same_edge e bound → f e ≡ e → ⊥
  not_one e h p = side_apart table area once framed s fit e h (ap (λ z. z.from) (sym p) ∙ (to_next e h).joined)

  not_two : (e : Edge) → Among same_edge e bound → f (f e) ≡ e → ⊥
  not_two e h p =
      let q : f e ≡ flip e = λ i. (to_next e h).joined i ⟶ (sym (to_next (f e) (stays e h)).joined ∙ ap (λ z. z.from) p) i in
      let k = subst (λ z. Among same_edge z bound) q (stays e h) in
      omega (arith, (bound_side table area once framed s fit e h).1, (bound_side table area once framed s fit (flip e) k).0)

  long : (e : Edge) → Among same_edge e bound → (k : ℕ) → after bound (suc k) e ≡ e → 3 ≤ suc k
  long e h zero p = absurd (not_one e h p)
  long e h (suc zero) p = absurd (not_two e h p)
  long e h (suc (suc k)) p = omega arith

  closed_ring : (e : Edge) → Among same_edge e bound → ClosedRing (ring_of bound e)
  closed_ring e h = subst ClosedRing (sym r.is) (record {
    start = e.from;
    closed = subst (λ z. Chain e.from z.from (path bound (suc r.k) e)) r.back (chain_path r.k e h);
    three = omega (arith, long e h r.k r.back, length_path bound (suc r.k) e);
    single = r.once;
  })
    where
      r : Ring bound stays apart e
      r = ring bound stays apart e h

  pub all_closed : All ClosedRing (rings bound)
  all_closed = all_map (λ r. (e : Edge) × Among same_edge e bound × (r ≡ ring_of bound e)) ClosedRing (λ r h. subst ClosedRing (sym h.2) (closed_ring h.0 h.1)) (rings bound) parted.each

  -- ---- how many
  pub same_length : length (joined (rings bound)) ≡ length bound
  same_length = omega (
    arith,
    fits (joined (rings bound)) bound (all_map (λ x. Among same_edge x (joined (rings bound))) (λ x. Among same_edge x bound) (λ x h. omega (arith, each_once x)) (joined (rings bound))
        (all_counted same_edge same_edge-eq same_edge-refl (joined (rings bound)))) (λ x. omega (arith, each_once x, bound_once table area once framed s fit x)),
    fits bound (joined (rings bound)) (all_map (λ x. Among same_edge x bound) (λ x. Among same_edge x (joined (rings bound))) (λ x h. omega (arith, each_once x)) bound
        (all_counted same_edge same_edge-eq same_edge-refl bound)) (λ x. bound_once table area once framed s fit x),
  )

  pub a_third : 3 * length (rings bound) ≤ length bound
  a_third = omega (arith, thrice (rings bound) all_closed, same_length)

  -- ---- the closed lines
  -- Their edges are the boundary sides, each once.
  pub lines_once : (x : Edge) → count same_edge x (flat_map edges (lines bound)) ≡ count same_edge x bound
  lines_once x = ap (# x) (all_edges (rings bound) all_closed) ∙ each_once x

  -- So they have the boundary of the set.
  pub lines_boundary : SameBoundary (flat_map edges (lines bound)) (sides_of (chosen table s))
  unfolding net
  lines_boundary e = rw (lines_once e, lines_once (flip e)) (same_boundary (chosen table s) (λ e. omega (arith, once e, fewer_sides table s e)) e)

  -- They have a point for each side and one more for each ring.
  pub lines_points : tally length (lines bound) ≡ length bound + length (rings bound)
  lines_points = omega (arith, all_points (rings bound) all_closed, same_length)
