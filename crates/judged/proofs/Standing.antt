-- What stands in the lists of a judged sheet: as many owner sets as triangles, sides that are each other's reverses, the number of polygons, the table's corners.
-- Assumes nothing.
use mathlib.Core.Path.{◌≡◌, sym, ◌∙◌, ap, ap₂, subst}
use mathlib.Core.List.{List, map}
use mathlib.Core.Option.{Option}
use Prim.Native.Nat.{ℕ, ◌+◌, ◌*◌, ◌≤◌, ◌<◌}
use native.Mathlib.Omega.{arith}
use lib.ListN.{length, get_or, take, length-map, length-take}
use lib.Seq.{get_or-take}
use Rattle.whole.proofs.Sums.{all_at}
use Rattle.plane.specs.Keys.{Held}
use Rattle.plane.specs.Boundaries.{sides_of}
use Rattle.plane_lengths.specs.Lengths.{lengths_of}
use Rattle.std.specs.Prelude.{Result, Ok, Err}
use Rattle.lent.specs.Stages.{value}
use Rattle.lent.specs.Refusals.{refused_as}
use Rattle.lent.specs.declared.Refusal.{Refusal}
use Rattle.table.specs.Opposites.{opposites}
use Rattle.owners_marks.specs.Sets.{owners_of}
use Rattle.repair_regions.specs.Spreading.{Paired}
use Rattle.repair_longest.specs.Held.{TableIn, lengths_held}
use Rattle.repair.specs.Ways.{repaired_by}
use Rattle.judged_sets.proofs.Standing.{polygons_stand}
use Rattle.judged_sets.proofs.Following.{polygons_count}
use Rattle.judged.specs.Judged.{Judged, judged_with, repair_of}
use Rattle.judged.specs.Held.{JudgedHeld, JudgedAs}
use Rattle.judged.proofs.Repaired.{owners_many, pairs_up}
use Rattle.judged.proofs.Sides.{lengths_held_lem}

module _ (index : Option (List ℕ)) (mode : ℕ) (s : List ℕ) (r : Result ℕ Refusal) (numbers opposite l : List ℕ) (e : JudgedAs index mode s r numbers opposite l) where
  -- The answer tells whether there is a judged sheet.
  pub stands : (t : ℕ) → r ≡ Ok t → (j : Judged) × (judged_with index mode s ≡ value j) × (length j.sheet.table ≡ t) × JudgedHeld j numbers (take (3 * t) opposite) (take t l)
  stands t q = subst (λ r. JudgedAs index mode s r numbers opposite l) q e

  pub refused_is : (f : Refusal) → r ≡ Err f → judged_with index mode s ≡ refused_as f
  refused_is f q = subst (λ r. JudgedAs index mode s r numbers opposite l) q e

module _ {j : Judged} {numbers opposite sets : List ℕ} (w : JudgedHeld j numbers opposite sets) where
  -- One owner set for each triangle, of which there are at most 1,024.
  pub sets_many : length sets ≡ length j.sheet.table
  sets_many = sym (length-map sets owners_of) ∙ ap length w.owners_are ∙ owners_many w.comes

  pub few : length sets ≤ 1024
  few = omega (arith, sets_many, w.held.few)

  pub pairs : Paired opposite (length sets)
  pairs = subst (λ o. Paired o (length sets)) (sym w.crossed) (subst (Paired _) (owners_many w.comes ∙ sym sets_many) (pairs_up w.comes w.held))

  -- The number of polygons stands behind the table.
  pub polygons_at : (1 + 6 * length sets < length numbers) × (get_or numbers (1 + 6 * length sets) 0 ≡ length j.sheet.polygons + 10_000_000)
  polygons_at =
      let c = polygons_count (polygons_stand j.sheet (take w.size numbers) (length sets) w.held (sym sets_many)) in
      (omega (arith, c.0, length-take w.size numbers), sym (get_or-take w.size numbers (1 + 6 * length sets) 0 (omega (arith, c.0, length-take w.size numbers))) ∙ c.1)

  -- The table's corners stand behind the count of its triangles,
  pub table_in : TableIn numbers (length sets)
  table_in = record { room = omega (arith, polygons_at.0); held = held }
    where
      held : (i : ℕ) → i < 1 + 6 * length sets → Held (get_or numbers i 0)
      held i h =
          let c = (polygons_count (polygons_stand j.sheet (take w.size numbers) (length sets) w.held (sym sets_many))).0 in
          subst Held (get_or-take w.size numbers i 0 (omega (arith, c, length-take w.size numbers))) (all_at Held 0 (take w.size numbers) i w.held.held (omega (arith, c)))

  -- so that repair by the numbers held is that of the sheet.
  pub repair_held : (way : ℕ) → repaired_by way (lengths_held numbers (length opposite)) opposite (map owners_of sets) ≡ repair_of way j
  repair_held way =
      let lengths = ap (λ o. lengths_held numbers (length o)) w.crossed ∙ lengths_held_lem w.size numbers w.held in
      ap₂ (λ l o. repaired_by way l o (map owners_of sets)) lengths w.crossed ∙ ap (repaired_by way (lengths_of j.sheet.table) (opposites (sides_of j.sheet.table))) w.owners_are
