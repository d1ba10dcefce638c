-- `listing_lines::put_head` meets its contract: each line stands behind those before it. Assumes nothing.
use mathlib.Core.Path.{◌≡◌, sym, ap, ◌∙◌}
use mathlib.Core.Bool.{cond}
use mathlib.Core.List.{List, map, ◌++◌}
use Prim.Native.Nat.{ℕ, ◌+◌, ◌≤◌}
use native.Mathlib.Omega.{arith}
use borrow.Author.Rules.{rules}
use borrow.Author.Tests.{eq-eqb, ne_eqb}
use lib.IntN.{pos}
use lib.ListN.{length}
use Rattle.table.specs.Sets.{chosen}
use Rattle.lent_text.specs.Text.{line_of}
use Rattle.lent_text.specs.Putting.{Put}
use Rattle.lent_text.proofs.Texts.{put_behind}
use Rattle.listing_figures.specs.declared.Figure.{Figure}
use Rattle.listing_figures.specs.declared.Figure.TheVariants.{Gaps, Overlaps}
use Rattle.listing_figures.specs.Figures.{marks_of, total}
use Rattle.listing_lines.specs.Lines.{sheet_word, polygon_word, gap_word, overlap_word, clean_line, repair_line, numbered}
use Rattle.listing_lines.specs.Printing.{line_by, verdict_by}
use Rattle.listing_lines.proofs.Lines.{behind}
use Rattle.listing_figures.proofs.Totals.{chosen_fewer}
use Rattle.listing_lines.proofs.put_head.Statement.{statement}
use Rattle.listing_lines.proofs.put_head.Tie as tie

-- ---- the figures of a sheet
module _ (l owners areas : List ℕ) where
  -- How many triangles a figure is of.
  abbrev many : Figure → ℕ
  many figure = length (chosen areas (marks_of figure l owners))

  few : (figure : Figure) → many figure ≤ length areas
  few figure = chosen_fewer areas (marks_of figure l owners)

  -- The lines of the polygons; the lines up to them, up to the gaps, and up to the overlaps.
  abbrev polygon_lines : List ℕ → List ℕ
  polygon_lines doubles = numbered polygon_word 1 (map pos doubles)

  abbrev to_polygons : List ℕ → List ℕ
  to_polygons doubles = line_of sheet_word (pos (length areas)) (pos (length doubles)) ++ polygon_lines doubles

  abbrev to_gaps : List ℕ → List ℕ
  to_gaps doubles = to_polygons doubles ++ line_by gap_word Gaps l owners areas

  abbrev to_overlaps : List ℕ → List ℕ
  to_overlaps doubles = to_gaps doubles ++ line_by overlap_word Overlaps l owners areas

  -- A figure's line, put behind what was put.
  figure_line : {n d r k : ℕ} {put before between after : List ℕ} (word : List ℕ) (figure : Figure) → Put 0 put before r between
      → n ≡ many figure → d ≡ total (chosen areas (marks_of figure l owners)) → Put r (line_of word (pos n) (pos d)) between k after → Put 0 (put ++ line_by word figure l owners areas) before k after
  figure_line word figure p e f q = behind (omega arith) p (λ i. line_of word (pos (e i)) (pos (f i))) q

  clean : {n m : ℕ} → n ≡ many Gaps → m ≡ many Overlaps → n + m ≡ 0 → clean_line ≡ verdict_by l owners areas
  clean e f h = sym (ap (λ b. cond b clean_line repair_line) (eq-eqb (many Gaps + many Overlaps) 0 (omega arith)))

  unclean : {n m : ℕ} → n ≡ many Gaps → m ≡ many Overlaps → (n + m ≡ 0 → ⊥) → repair_line ≡ verdict_by l owners areas
  unclean e f h = sym (ap (λ b. cond b clean_line repair_line) (ne_eqb (many Gaps + many Overlaps) 0 (λ k. h (omega arith))))

-- ---- places: the entry of the function, the line of the gaps, the line of the overlaps
abbrev polygons_put : tie.After-put_line-gap → tie.After-put_polygons-lines
polygons_put c = c.before.before.before.before.before.before.before

abbrev sheet_put : tie.After-put_line-gap → tie.After-put_line-first
sheet_put c = (polygons_put c).before.before.before.before.before.before

abbrev start : tie.After-put_line-gap → tie.Start
start c = (sheet_put c).before.before.before.before.before.before.before.before.before

abbrev gaps_put : tie.After-put_line-overlap → tie.After-put_line-gap
gaps_put c = c.before.before.before.before.before.before.before

abbrev overlaps_put : tie.After-struct_known-2-1 → tie.After-put_line-overlap
overlaps_put c = c.before.before.before.before

-- What is put so far: where it ends, that no byte of the text is lost, and what it is.
abbrev Written : tie.Start → ℕ → (List ℕ → List ℕ → List ℕ → List ℕ → List ℕ) → ℕ → List ℕ → Type 0
Written s most lines r text =
    let a = s.args in
    (r ≤ most) × (length text ≡ length a.text.now) × Put 0 (lines a.sets.now a.owners.now a.areas.now a.doubles.now) a.text.now r text

to_gaps_lem : (c : tie.After-put_line-gap) → Written (start c) 3294 to_gaps c.put_line-gap.result c.put_line-gap.new.text
to_gaps_lem c =
    let a = (start c).args in
    let s = (sheet_put c).put_line-first in
    let p = (polygons_put c).put_polygons-lines in
    let t = c.tally-gaps.ensures in
    let g = c.put_line-gap in (
      omega (arith, (start c).requires.1, s.ensures.0, p.ensures.0, g.ensures.0),
      g.auto.text ∙ p.auto.text ∙ s.auto.text,
      figure_line a.sets.now a.owners.now a.areas.now gap_word Gaps (put_behind (omega arith) s.ensures.1 p.ensures.1) t.0 t.1 g.ensures.1,
    )

to_overlaps_lem : (c : tie.After-put_line-overlap) → Written (start (gaps_put c)) 3344 to_overlaps c.put_line-overlap.result c.put_line-overlap.new.text
to_overlaps_lem c =
    let a = (start (gaps_put c)).args in
    let g = to_gaps_lem (gaps_put c) in
    let t = c.tally-overlaps.ensures in
    let o = c.put_line-overlap in (
      omega (arith, g.0, o.ensures.0),
      o.auto.text ∙ g.1,
      figure_line a.sets.now a.owners.now a.areas.now overlap_word Overlaps g.2 t.0 t.1 o.ensures.1,
    )

-- The two counts that the verdict is by.
gaps_many : (c : tie.After-put_line-gap) → let a = (start c).args in c.tally-gaps.result.triangles ≡ many a.sets.now a.owners.now a.areas.now Gaps
gaps_many c = c.tally-gaps.ensures.0

overlaps_many : (c : tie.After-put_line-overlap) → let a = (start (gaps_put c)).args in c.tally-overlaps.result.triangles ≡ many a.sets.now a.owners.now a.areas.now Overlaps
overlaps_many c = c.tally-overlaps.ensures.0

tally_requires_2 : tie.Need-tally-overlaps-requires
tally_requires_2 c κs = let f = (start c.before.before).requires.0 in (f.each_set, f.each_owner, f.few, f.small)

put_line_requires_3 : tie.Need-put_line-overlap-requires
put_line_requires_3 c κs = let g = c.before.before.before.before.before.before in omega (arith, (to_gaps_lem g).0, (to_gaps_lem g).1, (start g).requires.2)

add_if1 : tie.Need-overflow_add-gaps
add_if1 c =
    let o = overlaps_put c in
    let s = start (gaps_put o) in
    let few-of = few s.args.sets.now s.args.owners.now s.args.areas.now in
    omega (arith, s.requires.0.few, few-of Gaps, few-of Overlaps, gaps_many (gaps_put o), overlaps_many o)

put_word_requires : tie.Need-put_word-requires
put_word_requires c κs = let o = overlaps_put c.before.before.before.before in omega (arith, (to_overlaps_lem o).0, (to_overlaps_lem o).1, (start (gaps_put o)).requires.2)

returns : tie.Need-returns-then-gaps-overlaps-eq0
returns c =
    let v = c.put_word.ensures in
    let t = c.before.before.before.before.before.before in
    let o = overlaps_put t.before in
    let a = (start (gaps_put o)).args in
    let w = to_overlaps_lem o in
    (omega (arith, w.0, v.place), behind (omega arith) w.2 (clean a.sets.now a.owners.now a.areas.now (gaps_many (gaps_put o)) (overlaps_many o) t.if-gaps-overlaps-eq0.true) v)

put_word_requires_2 : tie.Need-put_word-requires-2
put_word_requires_2 c κs = let o = overlaps_put c.before.before.before.before in omega (arith, (to_overlaps_lem o).0, (to_overlaps_lem o).1, (start (gaps_put o)).requires.2)

returns_2 : tie.Need-returns
returns_2 c =
    let v = c.put_word-2.ensures in
    let t = c.before.before.before.before.before.before in
    let o = overlaps_put t.before in
    let a = (start (gaps_put o)).args in
    let w = to_overlaps_lem o in
    (omega (arith, w.0, v.place), behind (omega arith) w.2 (unclean a.sets.now a.owners.now a.areas.now (gaps_many (gaps_put o)) (overlaps_many o) t.if-gaps-overlaps-eq0.false) v)

pub put_head_spec : {M : Type 1} → statement M
put_head_spec =
    tie.close
    (tie.spec
    (λ c κs. search rules)
    (λ c κs. search rules)
    (λ c κs. search rules)
    (λ c κs. search rules)
    tally_requires_2
    put_line_requires_3
    add_if1
    put_word_requires
    (λ c. c.put_word.auto.text ∙ (to_overlaps_lem (overlaps_put c.before.before.before.before.before.before.before)).1)
    returns
    put_word_requires_2
    (λ c. c.put_word-2.auto.text ∙ (to_overlaps_lem (overlaps_put c.before.before.before.before.before.before.before)).1)
    returns_2)
