-- A judged sheet, repaired: each triangle has exactly one owner, one of the sheet's polygons, there is one such answer only, the double areas of the
-- polygons add up to the frame's, and the boundary sides of each are exactly its boundary.
-- The idea: the table passed the rules, and as held numbers it is the triangles of its corners' numbers, so that the theorems of repair hold for it;
-- an owner's number is that of a polygon that there is. Assumes nothing.
use mathlib.Core.Path.{◌≡◌, sym, ◌∙◌, subst}
use mathlib.Core.Logic.{◌↔◌, inl, inr}
use mathlib.Core.Bool.{Bool}
use mathlib.Core.List.{List, [], ◌∷◌}
use Prim.Native.Nat.{ℕ, ◌+◌, ◌*◌, ◌≤◌, ◌<◌}
use native.Mathlib.Omega.{arith}
use lib.IntN.{pos}
use lib.ListN.{length, length-map}
use lib.Signed.{◌≤ℤ◌}
use Rattle.whole.specs.Sums.{All, Among, count, sum}
use Rattle.whole.proofs.Sums.{all_map}
use Rattle.plane.specs.Points.{Edge, Triangle, same_edge, double}
use Rattle.plane.specs.Boundaries.{boundary, sides_of}
use Rattle.plane.specs.Members.{Member, double_area}
use Rattle.plane_lengths.specs.Lengths.{length_of, lengths_of}
use Rattle.plane_lengths.proofs.Lengths.{sides_some}
use Rattle.lent.specs.Stages.{value, refused}
use Rattle.table.specs.Table.{corners, frame_of, rectangle, frame_edges, RuleA, RuleB, RuleC}
use Rattle.table.specs.Sides.{triangles_of}
use Rattle.table.specs.Opposites.{opposites}
use Rattle.table.proofs.Rules.{passes}
use Rattle.table.proofs.Shares.{length_sides, length_opposites}
use Rattle.owners_marks.specs.Marks.{owners_from}
use Rattle.owners_marks.specs.Listed.{OwnersListed}
use Rattle.owners_marks.proofs.Owners.{length_owners_from, owners_numbers, owners_listed}
use Rattle.owners.proofs.Polygons.{EachCarried, all_carried, marks_fit, OwnersAre, owners_are}
use Rattle.repair_regions.specs.Regions.{from}
use Rattle.repair_regions.specs.Spreading.{Paired}
use Rattle.repair_choices.specs.Choices.{Choice, choice_by}
use Rattle.repair_choices.specs.Choosing.{Chooses}
use Rattle.repair_choices.proofs.Ways.{way_chooses}
use Rattle.repair.specs.Repair.{repaired}
use Rattle.repair.specs.OneOwner.{owners_at, FoundFor, OneOwner, shared_with, ChosenThere}
use Rattle.repair.proofs.OneOwner.{Connects, paired, connects, refused_by, no_owner, not_given, none_alone, repaired_exactly, found_shared, way_tells}
use Rattle.repair.proofs.Kept.{owners_kept}
use Rattle.repair_sides.specs.Sides.{boundary_sides, triangles_owned}
use Rattle.repair_sides.proofs.Bounding.{sides_are_boundary as are_boundary, sides_once as each_once, at_most_one as none_above, owned_once, frame_after}
use Rattle.sheet_form.specs.Numbers.{members, member_numbers, counted}
use Rattle.sheet.specs.Held.{SheetHeld}
use Rattle.sheet_edges.proofs.Triangles.{held_keys}
use Rattle.judged.specs.Judged.{Judged, repair_of}
use Rattle.judged.specs.Held.{judge_sheet}
use Rattle.judged.proofs.Stages.{polygons_value, sheet_value}
use Rattle.judged.proofs.Ways.{known_way, way_value}

-- What owners come from: the marks of each polygon.
pub record Made (table : List Triangle) (ms : List Member) (owners : List (List ℕ)) : Type 0 where
  pub marks : List (List Bool)
  pub each : EachCarried table ms marks
  pub are : owners_from (length table) 1 marks ≡ owners

-- ---- a judged sheet
module _ {j : Judged} (e : judge_sheet j.sheet ≡ value j) where
  abbrev table : List Triangle
  table = j.sheet.table

  -- Its table passes the three rules.
  pub rules : RuleA j.sheet.table × RuleB j.sheet.table × RuleC (frame_edges j.sheet.table) j.sheet.table
  rules = (passes (frame_edges table) table).0 ((sheet_value j.sheet j).0 e).1

  pub made : Made j.sheet.table j.sheet.polygons j.owners
  made =
      let (l, p, q) = (polygons_value table j.sheet.polygons j.owners).0 ((sheet_value j.sheet j).0 e).2 in
      record { marks = l; each = (all_carried table j.sheet.polygons l).0 p; are = q }

  fit : (length made.marks ≡ length j.sheet.polygons) × All (λ s. length s ≡ length table) made.marks
  fit = marks_fit table rules.0 rules.1 j.sheet.polygons made.marks made.each

  -- There are owners for each triangle,
  pub owners_many : length j.owners ≡ length j.sheet.table
  owners_many = subst (λ o. length o ≡ length table) made.are (length_owners_from (length table) 1 made.marks fit.1)

  -- in ascending order, and each is the number of one of the sheet's polygons.
  pub listed : OwnersListed j.owners
  listed = subst OwnersListed made.are (owners_listed (length table) made.marks)

  pub of_polygons : All (All (λ k. (1 ≤ k) × (k ≤ length j.sheet.polygons))) j.owners
  of_polygons =
      subst (All (All (λ k. (1 ≤ k) × (k ≤ length j.sheet.polygons)))) made.are
      (all_map (All (λ x. (1 ≤ x) × (x < 1 + length made.marks))) (All (λ k. (1 ≤ k) × (k ≤ length j.sheet.polygons)))
      (λ o. all_map (λ x. (1 ≤ x) × (x < 1 + length made.marks)) (λ k. (1 ≤ k) × (k ≤ length j.sheet.polygons)) (λ k (a, b). (a, omega (arith, fit.0))) o)
      (owners_from (length table) 1 made.marks) (owners_numbers (length table) 1 made.marks))

  -- Polygon k + 1 owns the triangles of one set, which is its area of ownership.
  pub owners_of : (k : ℕ) → k < length j.sheet.polygons → OwnersAre j.sheet.table rules.0 rules.1 j.sheet.polygons j.owners k
  owners_of k h =
      subst (λ o. OwnersAre table rules.0 rules.1 j.sheet.polygons o k) made.are (owners_are table rules.0 rules.1 j.sheet.polygons made.marks made.each k h)

  -- ---- for owner numbers o, as those after repair, the boundary sides of polygon p
  module _ (o : List ℕ) (p : ℕ) where
    sides_single : (e : Edge) → count same_edge e (sides_of (triangles_owned table o p)) ≤ 1
    sides_single = owned_once table rules.1 o p

    -- They are exactly the pairs at which the boundary of the polygon's triangles is 1,
    pub sides_are_boundary : (e : Edge) → Among same_edge e (boundary_sides (triangles_owned j.sheet.table o p)) ↔ (boundary (sides_of (triangles_owned j.sheet.table o p)) e ≡ pos 1)
    sides_are_boundary = are_boundary (triangles_owned table o p) sides_single

    -- each once,
    pub sides_once : (e : Edge) → count same_edge e (boundary_sides (triangles_owned j.sheet.table o p)) ≤ 1
    sides_once = each_once (triangles_owned table o p) sides_single

    -- and nowhere is it above 1.
    pub at_most_one : (e : Edge) → boundary (sides_of (triangles_owned j.sheet.table o p)) e ≤ℤ pos 1
    at_most_one = none_above (triangles_owned table o p) sides_single

  -- ---- held within the limits
  module _ {numbers : List ℕ} (h : SheetHeld members j.sheet numbers) where
    abbrev opposite : List ℕ
    opposite = opposites (sides_of table)

    keyed : (keys : List ℕ) × (length keys ≡ 3 * length table) × (triangles_of keys ≡ table)
    keyed = let k = held_keys numbers h.held table (counted member_numbers j.sheet.polygons) h.is in (k.0, k.1, k.2)

    -- What is across a side of the table is a side, and across that is the first again; and from each triangle all are reached across sides.
    pub pairs_up : Paired (opposites (sides_of j.sheet.table)) (length j.owners)
    pairs_up =
        subst (Paired opposite) (sym owners_many) (subst (λ t. RuleB t → Paired (opposites (sides_of t)) (length table)) keyed.2 (paired keyed.0 (length table) keyed.1) rules.1)

    joins_up : Connects opposite (length j.owners)
    joins_up =
        subst (Connects opposite) (sym owners_many)
        (subst (λ t. RuleB t → RuleA t → RuleC (frame_edges t) t → Connects (opposites (sides_of t)) (length table)) keyed.2 (connects keyed.0 (length table) keyed.1) rules.1 rules.0 rules.2)

    -- ---- in a known way
    module _ (way : ℕ) (known : way ≤ 1) where
      abbrev choice : Choice
      choice = choice_by way (lengths_of table) opposite

      chooses : Chooses opposite choice
      chooses = way_chooses way (lengths_of table) opposite

      -- Repair has no answer exactly if no triangle has an owner: 30, item 0, is its only refusal.
      pub unrepaired : (code item : ℕ) → (repair_of way j ≡ refused code item) ↔ ((code ≡ 30) × (item ≡ 0) × ((t : ℕ) → t < length j.owners → owners_at j.owners t ≡ []))
      unrepaired code item = (to, from)
        where
          none : (repaired choice opposite j.owners ≡ refused 30 0) ↔ ((t : ℕ) → t < length j.owners → owners_at j.owners t ≡ [])
          none = no_owner choice opposite j.owners listed

          from : (code ≡ 30) × (item ≡ 0) × ((t : ℕ) → t < length j.owners → owners_at j.owners t ≡ []) → repair_of way j ≡ refused code item
          from (c, i, n) = known_way j way known ∙ none.1 n ∙ (λ k. refused (sym c k) (sym i k))

          to : repair_of way j ≡ refused code item → (code ≡ 30) × (item ≡ 0) × ((t : ℕ) → t < length j.owners → owners_at j.owners t ≡ [])
          to e =
              let r = sym (known_way j way known) ∙ e in
              elim (refused_by choice opposite j.owners code item r) [
                | inl (c, i) ↦ (c, i, none.0 (r ∙ (λ k. refused (c k) (i k))))
                | inr c ↦
                    let alone = (not_given choice opposite j.owners listed chooses pairs_up item).0 (r ∙ (λ k. refused (c k) item)) in
                    absurd (none_alone choice opposite j.owners listed chooses pairs_up joins_up alone.some_owner alone.at alone.within alone.alone)
              ]

      -- Its answer o gives each triangle exactly one owner, as laid down, and no other list does.
      pub repaired_is : (o : List ℕ) → (repair_of way j ≡ value o)
          ↔ (OneOwner (opposites (sides_of j.sheet.table)) j.owners o × ChosenThere way (lengths_of j.sheet.table) (opposites (sides_of j.sheet.table)) j.owners o)
      repaired_is o =
          subst (λ a. (a ≡ value o) ↔ (OneOwner opposite j.owners o × ChosenThere way (lengths_of table) opposite j.owners o)) (sym (known_way j way known))
          (repaired_exactly opposite j.owners choice (ChosenThere way (lengths_of table) opposite j.owners) (way_tells opposite j.owners listed pairs_up (lengths_of table) way) chooses listed pairs_up joins_up (omega (arith, owners_many, h.some)) o)

    module _ (way : ℕ) (o : List ℕ) (r : repair_of way j ≡ value o) where
      one_owner : OneOwner opposite j.owners o
      one_owner = ((repaired_is way (way_value j way o r) o).0 r).0

      -- There is a number for each triangle, and it is that of one of the sheet's polygons.
      pub after_many : length o ≡ length j.sheet.table
      after_many = one_owner.each ∙ owners_many

      pub after_polygons : All (λ k. (1 ≤ k) × (k ≤ length j.sheet.polygons)) o
      after_polygons = owners_kept opposite j.owners o one_owner (λ k. (1 ≤ k) × (k ≤ length j.sheet.polygons)) of_polygons

      -- The double areas of the polygons' triangles add up to the frame's.
      pub areas_balance : sum (λ p. sum double (triangles_owned j.sheet.table o p)) (from 1 (length j.sheet.polygons)) ≡ double_area ((rectangle (frame_of (corners j.sheet.table)) ∷ []) ∷ [])
      areas_balance = frame_after table o (length j.sheet.polygons) after_many after_polygons rules.2

    -- A number found across a gap region has a shared length of 1 at least: each side is at least 1 long.
    pub touching_long : (t m : ℕ) → t < length j.owners → FoundFor (opposites (sides_of j.sheet.table)) j.owners t m → 1 ≤ shared_with (lengths_of j.sheet.table) (opposites (sides_of j.sheet.table)) j.owners t m
    touching_long =
        let many = length-map (sides_of table) length_of ∙ sym (subst (λ t. length (opposites (sides_of t)) ≡ length (sides_of t)) keyed.2 (length_opposites keyed.0 (length table) keyed.1 ∙ sym (length_sides keyed.0 (length table) keyed.1))) in
        found_shared opposite j.owners listed pairs_up (lengths_of table) many (sides_some table rules.0)
