-- What a held judged sheet goes on to, as the code comes to it. The idea: the owner sets are the owners' form, and by rule B the boundary sides of a polygon
-- are those that bound it by number. Assumes nothing.
use mathlib.Core.Path.{◌≡◌, refl, sym, ◌∙◌, ap, ap₂, subst}
use mathlib.Core.Bool.{true, false}
use mathlib.Core.List.{List, [], map}
use Prim.Native.Nat.{ℕ, ◌≤◌, ◌<◌}
use native.Mathlib.Omega.{arith}
use lib.Dec.{T, leb, leb→le}
use lib.ListN.{length}
use Rattle.whole.specs.Sums.{All}
use Rattle.whole.proofs.Sums.{and_right}
use Rattle.plane.specs.Points.{Edge}
use Rattle.plane.specs.Boundaries.{sides_of}
use Rattle.lent.specs.Stages.{Answer, value, refused, and_then, needing}
use Rattle.lent.specs.Answered.{Outcome, bytes, answer_of, Answered}
use Rattle.lent_sets.specs.Sets.{each_outcome}
use Rattle.table.specs.Opposites.{opposites}
use Rattle.owners_marks.specs.Sets.{owners_of}
use Rattle.repair_longest.specs.Held.{lengths_held}
use Rattle.repair.specs.Ways.{repaired_by}
use Rattle.repair_sides.specs.Numbered.{boundary_numbers}
use Rattle.repair_rings.specs.Rings.{lines}
use Rattle.repair_answers.specs.Answers.{numbers_after}
use Rattle.repair_answers.specs.Held.{owners_outcome, sides_held, sides_outcome}
use Rattle.sheet_ring_bytes.specs.Lines.{lines_outcome, lines_after, room_outcome, room_after}
use Rattle.sheet_ring_bytes.specs.Held.{line_held, polygon_rings, rings_outcome, ring_room_outcome, Begun}
use Rattle.judged.specs.Judged.{Judged, judged_sheet, repair_of}
use Rattle.judged.specs.Held.{JudgedHeld}
use Rattle.judged.proofs.Repaired.{rules, after_many}
use Rattle.judged.proofs.Standing.{repair_held}
use Rattle.judged.proofs.Sides.{sides_held_lem, sides_as_many}
use Rattle.outcomes.specs.declared.Wanted.TheVariants.{OwnerSets, Owners, Boundary, Rings, RingRoom}
use Rattle.listing.specs.Listing.{listing}
use Rattle.outcomes.proofs.Rings.{lines_held, rings_begun}
use Rattle.outcomes.proofs.Unwritten.{then_unwritten, nothing_written}
use Rattle.outcomes.specs.Entries.{on_sheet, sides_after, owned_sides, goes_on, sheet_listing_by}

-- Two ways to go on that are the same for each value of a stage.
on_same : {A : Type 0} (f g : A → Outcome) (r : Answer A) → ((a : A) → r ≡ value a → f a ≡ g a) → and_then r f ≡ and_then r g
on_same f g (value a) e = e a refl
on_same f g (refused code item) e = refl

module _ {j : Judged} {numbers opposite sets : List ℕ} (w : JudgedHeld j numbers opposite sets) (way : ℕ) where
  pub owner_sets_on : each_outcome sets ≡ goes_on way OwnerSets j
  owner_sets_on = ap each_outcome w.sets_are

  pub owners_on : owners_outcome way (lengths_held numbers (length opposite)) opposite (map owners_of sets) ≡ goes_on way Owners j
  owners_on = ap (λ a. and_then a numbers_after) (repair_held w way)

  module _ (polygon : ℕ) where
    -- Where the polygon isn't on the sheet it is 41, whatever is wanted of it; else what is wanted.
    pub not_asked : (next : Unit {0} → Outcome) → on_sheet polygon j.sheet ≡ false → and_then (needing (on_sheet polygon j.sheet) 41 0) next ≡ refused 41 0
    not_asked next e = ap (λ b. and_then (needing b 41 0) next) e

    -- One of at most 64 polygons: its number is a byte.
    pub asked_byte : on_sheet polygon j.sheet ≡ true → polygon < 256
    asked_byte e = omega (arith, leb→le polygon (length j.sheet.polygons) (and_right (leb 1 polygon) (leb polygon (length j.sheet.polygons)) (subst T (sym e) tt)), w.held.few_polygons)

    asked : (next : Unit {0} → Outcome) → on_sheet polygon j.sheet ≡ true → and_then (needing (on_sheet polygon j.sheet) 41 0) next ≡ next tt
    asked next e = ap (λ b. and_then (needing b 41 0) next) e

    -- What is made of the sides by number is what is made of those of the polygon's triangles.
    on_sides : (f : List ℕ → List ℕ → Outcome) (g : List Edge → Outcome) → ((owners : List ℕ) → repair_of way j ≡ value owners → f (opposites (sides_of j.sheet.table)) owners ≡ g (owned_sides j.sheet polygon owners))
        → on_sheet polygon j.sheet ≡ true → and_then (repaired_by way (lengths_held numbers (length opposite)) opposite (map owners_of sets)) (f opposite)
        ≡ and_then (needing (on_sheet polygon j.sheet) 41 0) (λ _. and_then (repair_of way j) (λ owners. g (owned_sides j.sheet polygon owners)))
    on_sides f g same on =
        ap₂ (λ a o. and_then a (f o)) (repair_held w way) w.crossed
        ∙ on_same (f (opposites (sides_of j.sheet.table))) (λ owners. g (owned_sides j.sheet polygon owners)) (repair_of way j) same
        ∙ sym (asked (λ _. and_then (repair_of way j) (λ owners. g (owned_sides j.sheet polygon owners))) on)

    pub boundary_on : on_sheet polygon j.sheet ≡ true → sides_outcome numbers way (lengths_held numbers (length opposite)) opposite (map owners_of sets) polygon ≡ goes_on way (Boundary polygon) j
    boundary_on = on_sides (λ o owners. sides_held numbers (boundary_numbers o owners polygon)) sides_after (λ owners e.
        let once = (rules w.comes).1 in
        let many = after_many w.comes w.held way owners e in
        sym (ap₂ bytes (sides_as_many w.held once owners many polygon) (sides_held_lem w.size numbers w.held once owners many polygon)))

    -- No ring is empty, whatever owner numbers repair comes to.
    pub begun : Begun (repaired_by way (lengths_held numbers (length opposite)) opposite (map owners_of sets)) (λ l. polygon_rings opposite l polygon)
    begun l e =
        let table = rules w.comes in
        subst (λ o. All (λ r. 1 ≤ length r) (polygon_rings o l polygon)) (sym w.crossed)
        (rings_begun w.size numbers w.held table.0 table.1 table.2 l (after_many w.comes w.held way l (sym (repair_held w way) ∙ e)) polygon)

    -- The lines by number are those of the polygon's triangles.
    lines_on : (owners : List ℕ) → repair_of way j ≡ value owners → map (line_held numbers) (polygon_rings (opposites (sides_of j.sheet.table)) owners polygon) ≡ lines (owned_sides j.sheet polygon owners)
    lines_on owners e =
        let table = rules w.comes in
        lines_held w.size numbers w.held table.0 table.1 table.2 owners (after_many w.comes w.held way owners e) polygon

    pub rings_on : on_sheet polygon j.sheet ≡ true → rings_outcome numbers way (lengths_held numbers (length opposite)) opposite (map owners_of sets) polygon ≡ goes_on way (Rings polygon) j
    rings_on = on_sides (λ o owners. lines_outcome (map (line_held numbers) (polygon_rings o owners polygon))) lines_after (λ owners e. ap lines_outcome (lines_on owners e))

    pub room_on : on_sheet polygon j.sheet ≡ true → ring_room_outcome numbers way (lengths_held numbers (length opposite)) opposite (map owners_of sets) polygon ≡ goes_on way (RingRoom polygon) j
    room_on = on_sides (λ o owners. room_outcome (map (line_held numbers) (polygon_rings o owners polygon))) room_after (λ owners e. ap room_outcome (lines_on owners e))

    -- The room is told without bytes, so that any lent bytes suffice and stay as they were.
    pub room_answered : (lent : List ℕ) {r : ℕ} → r ≡ answer_of (goes_on way (RingRoom polygon) j) [] → Answered (goes_on way (RingRoom polygon) j) lent r lent
    room_answered lent =
        let told : List ℕ → Outcome = λ owners. room_after (owned_sides j.sheet polygon owners) in
        nothing_written (goes_on way (RingRoom polygon) j) lent
        (then_unwritten (needing (on_sheet polygon j.sheet) 41 0) (λ _. and_then (repair_of way j) told) (λ _. then_unwritten (repair_of way j) told (λ owners. refl)))

-- The listing's bytes, and their number; of a refused sheet too.
pub listing_on : (mode way : ℕ) (s : List ℕ) → sheet_listing_by mode way s ≡ bytes (length (listing way (judged_sheet mode s))) (listing way (judged_sheet mode s))
listing_on mode way s = refl
