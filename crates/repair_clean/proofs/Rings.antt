-- A member that has the rings of a polygon after repair is carried by exactly the triangles that the polygon owns, and judging it answers these.
-- The idea: the edges of the rings are the boundary sides, each once; as sides of the table they stay whole where they are cut at its corners, so the member has the boundary of the
-- triangles owned. If it had no ground, that set would have no boundary, and would be empty. Assumes nothing.
use mathlib.Core.Path.{◌≡◌, sym, ◌∙◌, ap}
use mathlib.Core.Bool.{false}
use mathlib.Core.List.{List, [], ◌∷◌, flat_map}
use Prim.Native.Nat.{ℕ, ◌+◌}
use native.Mathlib.Omega.{arith}
use lib.Dec.{eqb}
use lib.ListN.{length, length-map}
use Rattle.whole.specs.Sums.{All, Among, bit, net}
use Rattle.whole.proofs.Sums.{all_map, all_counted, count-++}
use Rattle.plane.specs.Points.{Edge, Triangle, flip, same_edge}
use Rattle.plane.specs.Cuts.{all_pieces}
use Rattle.plane.specs.Boundaries.{boundary, sides_of}
use Rattle.plane.specs.Members.{Member, edges, member_edges}
use Rattle.plane.proofs.Points.{same_edge-eq, same_edge-refl}
use Rattle.table.specs.Table.{corners, frame_edges, RuleA, RuleB, RuleC}
use Rattle.table.specs.Sets.{SetOf}
use Rattle.table.proofs.Sets.{zero_empty}
use Rattle.table.proofs.Shares.{fewer_sides}
use Rattle.table_fans.proofs.Straight.{sides_uncut}
use Rattle.owners.specs.Judging.{Carries, Groundless, carried, judge, AreaOfOwnership}
use Rattle.owners.proofs.Carried.{owned, answers}
use Rattle.repair_sides.specs.Sides.{boundary_sides, owned_by, triangles_owned}
use Rattle.repair_rings.proofs.Injective.{bound_side}
use Rattle.repair_rings.proofs.Rings.{lines_once, lines_boundary}
use Rattle.repair_clean.specs.Clean.{rings_after, HasRings}

-- A number that stands among the owners owns a triangle.
not_all_false : (p : ℕ) (owners : List ℕ) → Among eqb p owners → All (λ b. b ≡ false) (owned_by p owners) → ⊥
not_all_false p [] h a = omega arith
not_all_false p (o ∷ l) h a = omega (arith, not_all_false p l (omega (arith, ap bit a.0)) a.1)

module _ (table : List Triangle) (area : RuleA table) (once : RuleB table) (framed : RuleC (frame_edges table) table) (owners : List ℕ) (fit : length owners ≡ length table) (p : ℕ) where
  owned_set : SetOf table (owned_by p owners)
  owned_set = length-map owners (λ o. eqb o p) ∙ fit

  -- A boundary side is a side of the table.
  bound_in_table : (e : Edge) → Among same_edge e (boundary_sides (triangles_owned table owners p)) → Among same_edge e (sides_of table)
  bound_in_table e h = omega (arith, (bound_side table area once framed (owned_by p owners) owned_set e h).0, fewer_sides table (owned_by p owners) e)

  module _ (m : Member) (same : HasRings table owners p m) where
    -- So its edges stay whole,
    uncut : all_pieces (corners table) (member_edges m) ≡ member_edges m
    uncut = sides_uncut table area framed (member_edges m) (all_map (λ e. Among same_edge e (member_edges m)) (λ e. Among same_edge e (sides_of table))
        (λ e h. bound_in_table e (omega (arith, same e, lines_once table area once framed (owned_by p owners) owned_set e)))
        (member_edges m) (all_counted same_edge same_edge-eq same_edge-refl (member_edges m)))

    -- and the triangles owned carry it.
    pub member_carried : Carries table (owned_by p owners) m
    unfolding net
    member_carried e = sym (ap (λ l. boundary l e) uncut ∙ rw (same e, same (flip e)) (lines_boundary table area once framed (owned_by p owners) owned_set e))

    module _ (some : Among eqb p owners) where
      has_ground : Groundless table m → ⊥
      has_ground g = not_all_false p owners some (zero_empty table area once (owned_by p owners) owned_set (λ e. member_carried e ∙ g e))

      -- They are its area of ownership,
      pub rings_carried : AreaOfOwnership table m (owned_by p owners)
      rings_carried = owned table m area once (owned_by p owners) owned_set member_carried has_ground

      -- and what judging it answers.
      pub rings_judged : judge table m ≡ carried (owned_by p owners)
      rings_judged = answers table m area once (owned_by p owners) owned_set member_carried has_ground

  -- The rings taken as one polygon are such a member.
  pub as_one_polygon : HasRings table owners p (rings_after table owners p ∷ [])
  unfolding flat_map
  as_one_polygon e = omega (arith, count-++ same_edge same_edge-eq same_edge-refl e (flat_map edges (rings_after table owners p)) [])

  pub lines_carried : Carries table (owned_by p owners) (rings_after table owners p ∷ [])
  lines_carried = member_carried (rings_after table owners p ∷ []) as_one_polygon
