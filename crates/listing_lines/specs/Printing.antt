-- The lines of the listing by the figures of the sheet: a double area for each polygon; an owner set, an owner number and a double area for each triangle.
use Rattle.std.specs.Prelude.{◌≡◌, cond, List, Result, Ok, Err, map, ◌++◌, ℕ, ◌+◌, ◌≤◌, eqb, pos, length}
use Rattle.whole.specs.Sums.{All}
use Rattle.table.specs.Sets.{chosen}
use Rattle.repair_regions.specs.Regions.{from}
use Rattle.lent.specs.declared.Refusal.{Refusal}
use Rattle.lent.specs.Refusals.{code_of}
use Rattle.lent_text.specs.Text.{line_of}
use Rattle.listing_figures.specs.declared.Figure.{Figure}
use Rattle.listing_figures.specs.declared.Figure.TheVariants.{Gaps, Overlaps, After}
use Rattle.listing_figures.specs.Figures.{marks_of, total}
use Rattle.listing_lines.specs.Lines.{sheet_word, polygon_word, gap_word, overlap_word, after_word, refused_line, clean_line, repair_line, numbered}

-- The double area of what polygon k owns after repair.
abbrev pub owned_by : List ℕ → List ℕ → List ℕ → ℕ → ℕ
owned_by l owners areas k = total (chosen areas (marks_of (After k) l owners))

-- A line for the triangles of a figure.
abbrev pub line_by : List ℕ → Figure → List ℕ → List ℕ → List ℕ → List ℕ
line_by word figure l owners areas = line_of word (pos (length (chosen areas (marks_of figure l owners)))) (pos (total (chosen areas (marks_of figure l owners))))

-- The verdict is clean where there is neither a gap nor an overlap.
abbrev pub verdict_by : List ℕ → List ℕ → List ℕ → List ℕ
verdict_by l owners areas = cond (eqb (length (chosen areas (marks_of Gaps l owners)) + length (chosen areas (marks_of Overlaps l owners))) 0) clean_line repair_line

-- The lines of a sheet up to the verdict, by the double areas of its polygons and by its figures.
abbrev pub head_by : List ℕ → List ℕ → List ℕ → List ℕ → List ℕ
head_by doubles l owners areas =
    line_of sheet_word (pos (length areas)) (pos (length doubles))
    ++ numbered polygon_word 1 (map pos doubles)
    ++ line_by gap_word Gaps l owners areas
    ++ line_by overlap_word Overlaps l owners areas
    ++ verdict_by l owners areas

-- The lines behind the verdict: what each polygon owns after repair, or the code and the item of the refusal of repair.
abbrev pub after_by : Result (Unit {0}) (ℕ × ℕ) → ℕ → List ℕ → List ℕ → List ℕ → List ℕ
after_by (Ok _) polygons l owners areas = numbered after_word 1 (map pos (map (owned_by l owners areas) (from 1 polygons)))
after_by (Err r) polygons l owners areas = refused_line r.0 r.1

-- All of its lines.
abbrev pub lines_by : Result (Unit {0}) (ℕ × ℕ) → List ℕ → List ℕ → List ℕ → List ℕ → List ℕ
lines_by done doubles l owners areas = head_by doubles l owners areas ++ after_by done (length doubles) l owners areas

-- What repair came to, with the code of its refusal.
abbrev pub told : Result (Unit {0}) Refusal → Result (Unit {0}) (ℕ × ℕ)
told (Ok u) = Ok u
told (Err r) = Err (code_of r.reason, r.item)

-- The lists of a sheet's figures: an owner set, an owner number and a double area for each triangle.
pub record Figures (l owners areas : List ℕ) : Type 0 where
  pub each_set : length l ≡ length areas
  pub each_owner : length owners ≡ length areas
  pub few : length areas ≤ 1024
  pub small : All (λ a. a ≤ 800_000_000_000_000) areas
