-- The printed listing: `sheet` triangles polygons; for each polygon `polygon` number double-area; `gap` and `overlap`, each with triangles and their
-- double area; `verdict` clean or repair; for each again `after` number double-area owned. A refusal prints `refused` code item.
use Rattle.std.specs.Prelude.{cond, List, ◌++◌, map, ℕ, pos, length}
use Rattle.whole.specs.Sums.{every, sum}
use Rattle.plane.specs.Points.{Triangle, double}
use Rattle.plane.specs.Members.{double_area}
use Rattle.lent.specs.Stages.{Answer, value, refused}
use Rattle.lent_text.specs.Text.{line_of}
use Rattle.table.specs.Sets.{chosen}
use Rattle.owners_marks.specs.Marks.{standing_by}
use Rattle.repair_regions.specs.Regions.{from}
use Rattle.repair_sides.specs.Sides.{triangles_owned}
use Rattle.sheet_form.specs.Numbers.{Sheet}
use Rattle.judged.specs.Judged.{Judged, repair_of}
use Rattle.listing_lines.specs.Lines.{sheet_word, polygon_word, gap_word, overlap_word, after_word, refused_line, clean_line, repair_line, numbered}
use Rattle.listing_figures.specs.Standings.{is_gap, is_single, is_overlap}

-- A line for some triangles: the word, how many they are, and their double area.
abbrev pub figure_line : List ℕ → List Triangle → List ℕ
figure_line word triangles = line_of word (pos (length triangles)) (sum double triangles)

-- The gaps, and the overlaps, before repair. The sheet is clean if every triangle has exactly one owner.
abbrev pub gaps_of : List Triangle → List (List ℕ) → List Triangle
gaps_of table owners = chosen table (map (λ o. is_gap (standing_by o)) owners)

abbrev pub overlaps_of : List Triangle → List (List ℕ) → List Triangle
overlaps_of table owners = chosen table (map (λ o. is_overlap (standing_by o)) owners)

abbrev pub verdict_line : List (List ℕ) → List ℕ
verdict_line owners = cond (every (λ o. is_single (standing_by o)) owners) clean_line repair_line

-- What each polygon owns after repair; one line `refused` where repair is refused.
abbrev pub after_lines : Sheet → Answer (List ℕ) → List ℕ
after_lines n (value owners) = numbered after_word 1 (map (λ polygon. sum double (triangles_owned n.table owners polygon)) (from 1 (length n.polygons)))
after_lines n (refused code item) = refused_line code item

-- The lines before those: the sheet, its polygons, gaps and overlaps, the verdict.
abbrev pub head_of : Sheet → List (List ℕ) → List ℕ
head_of n owners =
    line_of sheet_word (pos (length n.table)) (pos (length n.polygons))
    ++ numbered polygon_word 1 (map double_area n.polygons)
    ++ figure_line gap_word (gaps_of n.table owners)
    ++ figure_line overlap_word (overlaps_of n.table owners)
    ++ verdict_line owners

-- The listing of a judged sheet, repaired in a way.
abbrev pub listing_of : ℕ → Judged → List ℕ
listing_of way j = head_of j.sheet j.owners ++ after_lines j.sheet (repair_of way j)

-- The listing of what bytes come to.
abbrev pub listing : ℕ → Answer Judged → List ℕ
listing way (value j) = listing_of way j
listing way (refused code item) = refused_line code item
