-- What the code that judges one polygon finds is what the judging answers. The idea: a set carries the polygon exactly if it has the boundary of the pieces, which
-- the counts tell; where no side is touched that is the empty set. Assumes nothing.
use mathlib.Core.Path.{◌≡◌, refl, sym, ◌∙◌, ap, subst}
use mathlib.Core.Logic.{◌↔◌}
use mathlib.Core.Bool.{Bool, false}
use mathlib.Core.List.{List}
use Prim.Native.Nat.{ℕ, ◌<◌}
use native.Mathlib.Omega.{arith}
use lib.ListN.{length, get_or, replicate, length-replicate}
use Rattle.std.specs.Prelude.{Result, Ok, Err}
use Rattle.plane.specs.Points.{Triangle}
use Rattle.plane.specs.Boundaries.{SameBoundary, sides_of}
use Rattle.plane.specs.Members.{Member, member_edges}
use Rattle.plane.specs.Keys.{pairs}
use Rattle.table.specs.Table.{RuleA, RuleB}
use Rattle.table.specs.Sets.{SetOf, chosen}
use Rattle.table.proofs.Sets.{zero_empty}
use Rattle.table.specs.Sides.{triangles_of, evenly, Shares}
use Rattle.table.proofs.Shares.{length_triangles}
use Rattle.table_count.specs.Counting.{pieces_of, Edged, Tallied, Settled, Stray}
use Rattle.owners_judge.specs.declared.Unowned.{Unowned}
use Rattle.owners_judge.specs.declared.Unowned.TheVariants.{NotCarried as No, NoGround as Bare}
use Rattle.owners.specs.Judging.{Carries, Groundless, carried, not_carried, no_ground, code, judge, AreaOfOwnership}
use Rattle.owners_judge.specs.Preparing.{Prepared}
use Rattle.owners_judge.specs.Judged.{judged_of}
use Rattle.owners.proofs.Carried.{answered, answers, not_carried_lem, no_ground_lem, empty_groundless}
use Rattle.owners_judge.proofs.Labels.{all_unset, none_chosen, unset_shares}
use Rattle.table_labels.proofs.Compared.{pieces_are, sided, tallied_room, turned, stray_refuses, shares_from, shares_to}
use Rattle.table_spread.specs.Spreading.{Spreadable}

-- Labels can spread from the sides with the counts of a polygon.
pub spreadable : (keys ordered index opposite : List ℕ) → Prepared keys ordered index opposite → (from to counts : List ℕ) → Edged from to
    → Tallied (sides_of (triangles_of keys)) (pieces_of ordered from to) counts → (n : ℕ) → n ≡ length (triangles_of keys) → length counts ≡ length keys → Spreadable opposite counts n
spreadable keys ordered index opposite prepared from to counts edged tallied n e q = record {
  keys = keys;
  corners = omega (arith, prepared.indexed.three, length_triangles keys prepared.indexed.n prepared.indexed.three);
  area = prepared.areas;
  sides_once = prepared.indexed.once;
  found = prepared.indexed.opposite_is;
  sided = sided keys ordered index opposite prepared.indexed (pieces_of ordered from to) counts n q e (tallied_room (sides_of (triangles_of keys)) ordered from to counts edged tallied);
  turned = turned keys ordered index opposite prepared.indexed (pieces_of ordered from to) counts tallied;
}

module _ (keys ordered index opposite : List ℕ) (prepared : Prepared keys ordered index opposite) (from to : List ℕ) (m : Member) (is : pairs from to ≡ member_edges m) where
  abbrev table : List Triangle
  table = triangles_of keys

  -- A set carries the member exactly if it has the boundary of the pieces.
  carrying : (s : List Bool) → Carries table s m ≡ SameBoundary (sides_of (chosen table s)) (pieces_of ordered from to)
  carrying s = ap (SameBoundary (sides_of (chosen table s))) (sym (pieces_are keys ordered index opposite prepared.indexed from to (member_edges m) is))

  none : ((s : List Bool) → SetOf table s → SameBoundary (sides_of (chosen table s)) (pieces_of ordered from to) → ⊥) → judge table m ≡ not_carried
  none h = (not_carried_lem table m prepared.areas prepared.indexed.once).1 (λ s l c. h s l (subst (λ T. T) (carrying s) c))

  pub judge_stray : Stray (sides_of table) (pieces_of ordered from to) → judge table m ≡ not_carried
  judge_stray stray = none (λ s l. stray_refuses keys ordered index opposite prepared.indexed (pieces_of ordered from to) s l stray)

  module _ (counts : List ℕ) (tallied : Tallied (sides_of table) (pieces_of ordered from to) counts) where
    -- No set has these counts for its boundary.
    pub judge_none : ((s : List Bool) → SetOf table s → Shares opposite counts s → ⊥) → judge table m ≡ not_carried
    judge_none h = none (λ s l c. h s l (shares_from keys ordered index opposite prepared.indexed (pieces_of ordered from to) s l counts tallied c))

    module _ (settled : Settled (sides_of table) (pieces_of ordered from to) (pieces_of ordered from to)) where
      carries : (labels : List Bool) → SetOf table labels → Shares opposite counts labels → Carries table labels m
      carries labels l h = subst (λ T. T) (sym (carrying labels)) (shares_to keys ordered index opposite prepared.indexed (pieces_of ordered from to) labels l counts tallied settled h)

      -- A member that touches no side is carried by no triangle, and has no ground;
      pub judge_bare : ((k : ℕ) → k < length opposite → get_or counts k 0 ≡ evenly) → judge table m ≡ no_ground
      judge_bare e =
          let s : List Bool = replicate (length table) false in
          let u = all_unset (length table) in
          (no_ground_lem table m prepared.areas prepared.indexed.once).1
          (empty_groundless table m s (none_chosen table s u) (carries s (length-replicate (length table) false) (λ k h. (unset_shares opposite counts s u k).1 (e k h))))

      -- one that touches a side and is carried has ground, since a boundary that is zero is that of no triangles.
      pub judge_carried : (labels : List Bool) → SetOf table labels → Shares opposite counts labels → (k : ℕ) → k < length opposite → (get_or counts k 0 ≡ evenly → ⊥) → judge table m ≡ carried labels
      judge_carried labels l h k p n =
          let c = carries labels l h in
          answers table m prepared.areas prepared.indexed.once labels l c
          (λ g. n ((unset_shares opposite counts labels (zero_empty table prepared.areas prepared.indexed.once labels l (λ d. c d ∙ g d)) k).0 (h k p)))

-- ---- demand 3 for the code
-- What the judging of one polygon says of its answer: 20 exactly if no set of triangles has the member's boundary, 21 exactly if that is zero everywhere; a carried member's labels are
-- the only set that has it, and their triangles' double areas add up to the member's.
pub judging_says : (table : List Triangle) (m : Member) → RuleA table → RuleB table → (r : Result (Unit {0}) Unowned) (labels : List Bool) → judged_of r labels ≡ judge table m
    → ((code (judged_of r labels) ≡ 20) ↔ ((s : List Bool) → SetOf table s → Carries table s m → ⊥)) × ((code (judged_of r labels) ≡ 21) ↔ Groundless table m) × (r ≡ Ok tt → AreaOfOwnership table m labels)
judging_says table m area once r labels e = (
  (λ q. (not_carried_lem table m area once).0 (sym e ∙ by_20 r q), λ h. ap code (e ∙ (not_carried_lem table m area once).1 h)),
  (λ q. (no_ground_lem table m area once).0 (sym e ∙ by_21 r q), λ h. ap code (e ∙ (no_ground_lem table m area once).1 h)),
  λ q. answered table m area once labels (sym e ∙ ap (λ r. judged_of r labels) q),
)
  where
    by_20 : (r : Result (Unit {0}) Unowned) → code (judged_of r labels) ≡ 20 → judged_of r labels ≡ not_carried
    by_20 (Ok u) q = absurd (omega arith)
    by_20 (Err No) q = refl
    by_20 (Err Bare) q = absurd (omega arith)

    by_21 : (r : Result (Unit {0}) Unowned) → code (judged_of r labels) ≡ 21 → judged_of r labels ≡ no_ground
    by_21 (Ok u) q = absurd (omega arith)
    by_21 (Err No) q = absurd (omega arith)
    by_21 (Err Bare) q = refl

-- Two outcomes that the contract of `judge` allows are equal: the answer, and where the polygon is carried every label.
pub one_outcome : (r r' : Result (Unit {0}) Unowned) (a b : List Bool) → judged_of r a ≡ judged_of r' b → (r ≡ r') × (r ≡ Ok tt → a ≡ b)
one_outcome r r' a b e = (same r r' (ap code e), λ q. labels r r' q e)
  where
    same : (r r' : Result (Unit {0}) Unowned) → code (judged_of r a) ≡ code (judged_of r' b) → r ≡ r'
    same (Ok u) (Ok v) q = refl
    same (Err No) (Err No) q = refl
    same (Err Bare) (Err Bare) q = refl
    same (Ok u) (Err No) q = absurd (omega arith)
    same (Ok u) (Err Bare) q = absurd (omega arith)
    same (Err No) (Ok u) q = absurd (omega arith)
    same (Err No) (Err Bare) q = absurd (omega arith)
    same (Err Bare) (Ok u) q = absurd (omega arith)
    same (Err Bare) (Err No) q = absurd (omega arith)

    labels : (r r' : Result (Unit {0}) Unowned) → r ≡ Ok tt → judged_of r a ≡ judged_of r' b → a ≡ b
    labels (Ok u) (Ok v) q e = cc e
    labels (Ok u) (Err No) q e = absurd (omega (arith, ap code e))
    labels (Ok u) (Err Bare) q e = absurd (omega (arith, ap code e))
    labels (Err No) r' q e = absurd (cc q)
    labels (Err Bare) r' q e = absurd (cc q)
