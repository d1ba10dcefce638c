-- The lines by the figures of a judged sheet are its listing. The idea: each figure is the number and the double
-- area of the triangles it is of, and the double area of a polygon from its corners is that of its set of triangles. Assumes nothing.
use mathlib.Core.Path.{◌≡◌, sym, ◌∙◌, ap, ap₂}
use mathlib.Core.Bool.{Bool, cond}
use mathlib.Core.List.{List, map, ◌++◌}
use Prim.Native.Nat.{ℕ, ◌+◌}
use native.Mathlib.Omega.{arith}
use lib.Dec.{eqb}
use lib.IntN.{pos}
use lib.ListN.{length, length-map}
use mir.Syntax.{w64}
use mir.Val.{of_z}
use Rattle.plane.specs.Points.{double}
use Rattle.plane.specs.Members.{Member, double_area}
use Rattle.table.specs.Sets.{chosen}
use Rattle.owners_marks.specs.Marks.{standing_by}
use Rattle.owners_marks.specs.Sets.{owners_of}
use Rattle.repair_longest.specs.Held.{lengths_held}
use Rattle.std.specs.Prelude.{Result, Ok, Err}
use Rattle.lent.specs.declared.Refusal.{Refusal}
use Rattle.repair.specs.Giving.{RepairedBy, repair_of as answer_of}
use Rattle.listing_figures.specs.declared.Figure.{Figure}
use Rattle.listing_figures.specs.declared.Figure.TheVariants.{Gaps, Overlaps}
use Rattle.listing_figures.specs.Figures.{marks_of, total}
use Rattle.listing_figures.specs.Standings.{is_gap, is_overlap}
use Rattle.judged.specs.Judged.{Judged, repair_of}
use Rattle.judged.specs.Held.{JudgedHeld}
use Rattle.judged.proofs.Repaired.{owners_many}
use Rattle.judged.proofs.Standing.{few, sets_many, repair_held}
use Rattle.lent_text.specs.Text.{line_of}
use Rattle.listing_lines.specs.Lines.{sheet_word, polygon_word, gap_word, overlap_word, after_word, clean_line, repair_line, numbered}
use Rattle.listing_lines.specs.Printing.{Figures, line_by, verdict_by, head_by, after_by, lines_by, told}
use Rattle.listing.specs.Listing.{figure_line, verdict_line, head_of, after_lines, listing_of}
use Rattle.listing.specs.Held.{AreasOf}
use Rattle.listing.proofs.Figures.{polygons_told, polygons_after, gaps_are, overlaps_are, figure_lines, verdict_is}

-- For owner numbers and double areas, one for each triangle.
module _ {j : Judged} {numbers opposite sets : List ℕ} (w : JudgedHeld j numbers opposite sets) (owners : List ℕ) {areas : List ℕ} (a : AreasOf j.sheet areas) (each : length owners ≡ length sets)
    {doubles : List ℕ} (d : doubles ≡ map (λ (m : Member). of_z w64 (double_area m)) j.sheet.polygons) where
  areas_many : length areas ≡ length sets
  areas_many = sym (length-map areas pos) ∙ ap length a.are ∙ length-map j.sheet.table double ∙ sym (sets_many w)

  pub figures : Figures sets owners areas
  figures = record { each_set = sym areas_many; each_owner = each ∙ sym areas_many; few = omega (arith, areas_many, few w); small = a.small }

  gaps : marks_of Gaps sets owners ≡ map (λ o. is_gap (standing_by o)) j.owners
  gaps = gaps_are sets owners (sym each) ∙ ap (map (λ o. is_gap (standing_by o))) w.owners_are

  overlaps : marks_of Overlaps sets owners ≡ map (λ o. is_overlap (standing_by o)) j.owners
  overlaps = overlaps_are sets owners (sym each) ∙ ap (map (λ o. is_overlap (standing_by o))) w.owners_are

  -- The line of a figure whose marks are these.
  line_is : (word : List ℕ) (figure : Figure) (s : List Bool) → marks_of figure sets owners ≡ s → line_by word figure sets owners areas ≡ figure_line word (chosen j.sheet.table s)
  line_is word figure s e =
      let f = figure_lines j.sheet.table areas a.are s in
      ap (λ s. line_of word (pos (length (chosen areas s))) (pos (total (chosen areas s)))) e ∙ ap₂ (λ m z. line_of word (pos m) z) f.0 f.1

  verdict_same : verdict_by sets owners areas ≡ verdict_line j.owners
  verdict_same =
      ap₂ (λ g o. cond (eqb (length (chosen areas g) + length (chosen areas o)) 0) clean_line repair_line) gaps overlaps
      ∙ ap (λ b. cond b clean_line repair_line) (verdict_is j.owners areas (areas_many ∙ sets_many w ∙ sym (owners_many w.comes)))

  many : length doubles ≡ length j.sheet.polygons
  many = ap length d ∙ length-map j.sheet.polygons (λ (m : Member). of_z w64 (double_area m))

  head_is : head_by doubles sets owners areas ≡ head_of j.sheet j.owners
  head_is =
      ap₂ ◌++◌
      (ap₂ ◌++◌
      (ap₂ ◌++◌
      (ap₂ ◌++◌ (ap₂ (λ m n. line_of sheet_word (pos m) (pos n)) (areas_many ∙ sets_many w) many)
      (ap (numbered polygon_word 1) (ap (map pos) d ∙ polygons_told w.comes areas a.are)))
      (line_is gap_word Gaps _ gaps))
      (line_is overlap_word Overlaps _ overlaps))
      verdict_same

  after_is : (way : ℕ) (done : Result (Unit {0}) Refusal) → answer_of done owners ≡ repair_of way j → after_by (told done) (length j.sheet.polygons) sets owners areas ≡ after_lines j.sheet (repair_of way j)
  after_is way (Ok _) e = ap (numbered after_word 1) (sym (polygons_after w.comes areas sets owners a.are w.sets_are (each ∙ sets_many w))) ∙ ap (after_lines j.sheet) e
  after_is way (Err r) e = ap (after_lines j.sheet) e

  -- The lines by the figures, and by what repair came to, are the listing.
  pub listing_is : {lent : List ℕ} (way : ℕ) (done : Result (Unit {0}) Refusal) → RepairedBy way (lengths_held numbers (length opposite)) opposite (map owners_of sets) lent done owners
      → lines_by (told done) doubles sets owners areas ≡ listing_of way j
  listing_is way done r = ap₂ ◌++◌ head_is (ap (λ n. after_by (told done) n sets owners areas) many ∙ after_is way done (r.answer ∙ repair_held w way))
