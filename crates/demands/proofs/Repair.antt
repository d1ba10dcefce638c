-- Demand 2: ".. repair and boundaries follow document 01", for every sheet that bytes come to. Assumes nothing.
use mathlib.Core.Path.{◌≡◌, refl, sym, ◌∙◌, subst}
use mathlib.Core.Logic.{◌↔◌, ◌⊎◌, inl, inr}
use mathlib.Core.List.{List, [], ◌∷◌}
use Prim.Native.Nat.{ℕ, ◌+◌, ◌*◌, ◌≤◌, ◌<◌}
use native.Mathlib.Decide.{dec_le}
use native.Mathlib.Omega.{arith}
use lib.Dec.{eqb}
use lib.IntN.{pos}
use lib.ListN.{length, get_or}
use lib.Signed.{◌≤ℤ◌}
use Rattle.whole.specs.Sums.{All, Among, count, sum}
use Rattle.whole.proofs.Sums.{all_at}
use Rattle.whole_root.proofs.OnlyRoot.{root_low, root_high, only_root}
use Rattle.plane.specs.Points.{Edge, same_edge, double}
use Rattle.plane.specs.Boundaries.{boundary, sides_of}
use Rattle.plane.specs.Members.{double_area}
use Rattle.plane_lengths.specs.Lengths.{dx, dy, length_of, lengths_of}
use Rattle.lent.specs.Stages.{value, refused}
use Rattle.table.specs.Table.{corners, frame_of, rectangle}
use Rattle.table.specs.Opposites.{opposites}
use Rattle.owners.proofs.Carried.{not_empty}
use Rattle.repair_regions.specs.Regions.{from}
use Rattle.repair_choices.specs.Choices.{choice_by}
use Rattle.repair.specs.OneOwner.{owners_at, FoundFor, OneOwner, LargestThere, shared_with, LongestThere, ChosenThere}
use Rattle.repair.proofs.Kept
use Rattle.repair_sides.specs.Sides.{triangles_owned}
use Rattle.sheet_form.specs.Numbers.{members}
use Rattle.sheet.specs.Reading.{reading_of}
use Rattle.sheet.specs.Held.{SheetHeld}
use Rattle.sheet_written.specs.Normal.{written}
use Rattle.judged.specs.Judged.{Judged, judged_sheet, repair_of}
use Rattle.judged.specs.Held.{judge_sheet}
use Rattle.judged.proofs.Stages.{judged_value}
use Rattle.judged.proofs.Repaired
use Rattle.judged.proofs.Ways
use Rattle.outcomes.specs.Entries.{owned_sides}
use Rattle.demands.specs.Answers.{KnownWay}
use Rattle.demands.proofs.Stages.{read_limits}

-- Bytes come to a judged sheet: a sheet with owners for each triangle.
module _ (mode : ℕ) (s : List ℕ) (bytes : All (λ b. b < 256) s) (j : Judged) (e : judged_sheet mode s ≡ value j) where
  -- (It is judged so, and is within the limits.)
  comes : judge_sheet j.sheet ≡ value j
  comes = ((judged_value mode s j).0 e).1

  held : SheetHeld members j.sheet (reading_of members (written j.sheet)).numbers
  held = read_limits mode s bytes j.sheet ((judged_value mode s j).0 e).0

  -- ---- in a known way
  module _ (way : ℕ) (known : KnownWay way) where
    pub unrepaired : (code item : ℕ) → (repair_of way j ≡ refused code item) ↔ ((code ≡ 30) × (item ≡ 0) × ((t : ℕ) → t < length j.owners → owners_at j.owners t ≡ []))
    unrepaired = Repaired.unrepaired comes held way known

    -- So 30 is given exactly if the sheet has no polygons: a polygon that is refused neither way owns a triangle.
    pub no_polygons : (repair_of way j ≡ refused 30 0) ↔ (length j.sheet.polygons ≡ 0)
    no_polygons = (λ r. to (dec_le 1 (length j.sheet.polygons)) ((unrepaired 30 0).0 r).2, λ z. (unrepaired 30 0).1 (refl, refl, λ t h. none z (owners_at j.owners t) (all_at (All (λ k. (1 ≤ k) × (k ≤ length j.sheet.polygons))) [] j.owners t (Repaired.of_polygons comes) h)))
      where
        none : length j.sheet.polygons ≡ 0 → (o : List ℕ) → All (λ k. (1 ≤ k) × (k ≤ length j.sheet.polygons)) o → o ≡ []
        none z [] h = refl
        none z (k ∷ o) h = absurd (omega (arith, h.0.0, h.0.1))

        to : Dec (1 ≤ length j.sheet.polygons) → ((t : ℕ) → t < length j.owners → owners_at j.owners t ≡ []) → length j.sheet.polygons ≡ 0
        to (no n) h = omega arith
        to (yes y) h =
            let rules = Repaired.rules comes in
            let o = Repaired.owners_of comes 0 (omega arith) in
            let (t, l, e) = not_empty j.sheet.table _ rules.0 rules.1 o.marks o.of_polygon in
            let a = subst (Among eqb 1) (h t (omega (arith, Repaired.owners_many comes, o.of_polygon.of_table))) ((o.are t).1 e) in
            absurd (omega arith)

    -- "Triangles with one owner keep it. An overlap goes to its smallest owner number .. Then take each gap region ..: all of it goes to" the number of the way.
    -- These owner numbers are repair's answer, and no others are:
    pub one_owner : (owners : List ℕ) → (repair_of way j ≡ value owners)
        ↔ (OneOwner (opposites (sides_of j.sheet.table)) j.owners owners × ChosenThere way (lengths_of j.sheet.table) (opposites (sides_of j.sheet.table)) j.owners owners)
    one_owner = Repaired.repaired_is comes held way known

    -- "The sheet is clean if every triangle has exactly one" owner: then repair has an answer and changes nothing.
    pub clean_kept : ((t : ℕ) → t < length j.sheet.table → length (owners_at j.owners t) ≡ 1)
        → (owners : List ℕ) × (repair_of way j ≡ value owners) × ((t : ℕ) → t < length j.sheet.table → owners_at j.owners t ≡ get_or owners t 0 ∷ [])
    clean_kept clean =
        let opposite = opposites (sides_of j.sheet.table) in
        let each = Repaired.owners_many comes in
        let single : (t : ℕ) → t < length j.owners → length (owners_at j.owners t) ≡ 1 = λ t h. clean t (omega arith) in
        let r = Ways.known_way j way known ∙ Kept.clean_repaired opposite j.owners single (choice_by way (lengths_of j.sheet.table) opposite) (Repaired.listed comes) (omega (arith, held.some)) in
        (_, r, λ t h. Kept.clean_kept opposite j.owners single _ ((one_owner _).0 r).0 t (omega arith))

  -- ---- in each way
  -- Repair in an unknown way is refused 54, item 0, before 30; in a known one "repair can't be done exactly if no triangle has an owner": 30, item 0, and no other refusal.
  pub in_a_way : (way code item : ℕ) → (repair_of way j ≡ refused code item)
      ↔ (((KnownWay way → ⊥) × (code ≡ 54) × (item ≡ 0)) ⊎ (KnownWay way × (code ≡ 30) × (item ≡ 0) × ((t : ℕ) → t < length j.owners → owners_at j.owners t ≡ [])))
  in_a_way way code item = (
    λ e. elim ((Ways.way_refused j way code item).0 e) [ inl p ↦ inl p | inr (k, q) ↦ let (c, i, z) = (unrepaired way k code item).0 e in inr (k, c, i, z) ],
    λ h. elim h [ inl p ↦ (Ways.way_refused j way code item).1 (inl p) | inr (k, c, i, z) ↦ (unrepaired way k code item).1 (c, i, z) ],
  )

  -- In way 0 that is "the largest number found across its sides once the overlaps are settled".
  pub by_priority : (owners : List ℕ) → (repair_of 0 j ≡ value owners) ↔ (OneOwner (opposites (sides_of j.sheet.table)) j.owners owners × LargestThere (opposites (sides_of j.sheet.table)) j.owners owners)
  by_priority = one_owner 0 (omega arith)

  -- In way 1 "a gap region goes to the number with the greatest shared length .. On equal lengths the larger number wins."
  pub by_length : (owners : List ℕ) → (repair_of 1 j ≡ value owners)
      ↔ (OneOwner (opposites (sides_of j.sheet.table)) j.owners owners × LongestThere (lengths_of j.sheet.table) (opposites (sides_of j.sheet.table)) j.owners owners)
  by_length = one_owner 1 (omega arith)

  -- "The length of a side is the largest whole number whose square is at most dx² + dy²": the only number whose square is and whose successor's is not,
  pub root_only : (e : Edge) (r : ℕ) → (r ≡ length_of e) ↔ ((r * r ≤ dx e * dx e + dy e * dy e) × (dx e * dx e + dy e * dy e < (r + 1) * (r + 1)))
  unfolding length_of
  root_only e r = (
    λ q. subst (λ r. (r * r ≤ dx e * dx e + dy e * dy e) × (dx e * dx e + dy e * dy e < (r + 1) * (r + 1))) (sym q) (root_low (dx e * dx e + dy e * dy e), root_high (dx e * dx e + dy e * dy e)),
    λ (low, high). only_root (dx e * dx e + dy e * dy e) r low high,
  )

  -- and at least 1 for each side of the table, so that no number that a gap region touches is lost: its shared length is at least 1.
  pub touching_long : (t m : ℕ) → t < length j.owners → FoundFor (opposites (sides_of j.sheet.table)) j.owners t m → 1 ≤ shared_with (lengths_of j.sheet.table) (opposites (sides_of j.sheet.table)) j.owners t m
  touching_long = Repaired.touching_long comes held

  -- ---- for the owner numbers that repair answers
  module _ (way : ℕ) (owners : List ℕ) (r : repair_of way j ≡ value owners) where
    -- each is that of one of the sheet's polygons,
    pub polygons_own : All (λ k. (1 ≤ k) × (k ≤ length j.sheet.polygons)) owners
    polygons_own = Repaired.after_polygons comes held way owners r

    -- and the double areas that the polygons own add up to the frame's.
    pub areas_balance : sum (λ k. sum double (triangles_owned j.sheet.table owners k)) (from 1 (length j.sheet.polygons)) ≡ double_area ((rectangle (frame_of (corners j.sheet.table)) ∷ []) ∷ [])
    areas_balance = Repaired.areas_balance comes held way owners r

  -- ---- the sides that the boundary entry writes for a polygon, by the owner numbers
  module _ (owners : List ℕ) (polygon : ℕ) where
    -- "Each side uv of its triangles after repair whose vu is no side of those": exactly the ordered pairs at which their boundary is 1,
    pub sides_are_boundary : (d : Edge) → Among same_edge d (owned_sides j.sheet polygon owners) ↔ (boundary (sides_of (triangles_owned j.sheet.table owners polygon)) d ≡ pos 1)
    sides_are_boundary = Repaired.sides_are_boundary comes owners polygon

    -- each of them once,
    pub sides_once : (d : Edge) → count same_edge d (owned_sides j.sheet polygon owners) ≤ 1
    sides_once = Repaired.sides_once comes owners polygon

    -- and nowhere is the boundary above 1.
    pub at_most_one : (d : Edge) → boundary (sides_of (triangles_owned j.sheet.table owners polygon)) d ≤ℤ pos 1
    at_most_one = Repaired.at_most_one comes owners polygon
