-- `listing::put_judged` meets its contract: the lines by the figures of the sheet are its listing. Assumes nothing.
use mathlib.Core.Path.{◌≡◌, sym, ◌∙◌, ap, subst}
use mathlib.Core.List.{List, ◌++◌, map}
use Prim.Native.Nat.{ℕ, ◌+◌, ◌-◌, ◌*◌, ◌≤◌}
use native.Mathlib.Omega.{arith}
use borrow.Author.Rules.{rules}
use lib.ListN.{length, get_or, length-append}
use lib.Seq.{length-take-le, take_at}
use mir.Syntax.{w64}
use mir.Val.{of_z}
use Rattle.plane.specs.Members.{Member, double_area}
use Rattle.lent_text.specs.Putting.{Put}
use Rattle.sheet_form.specs.Numbers.{members}
use Rattle.judged.specs.Judged.{Judged}
use Rattle.judged.specs.Held.{JudgedHeld}
use Rattle.judged.proofs.Standing.{few, pairs, polygons_at, table_in}
use Rattle.listing_lines.specs.Printing.{Figures, lines_by, told}
use Rattle.listing.specs.Held.{AreasOf}
use Rattle.listing.specs.Listing.{listing_of}
use Rattle.listing.proofs.Sheet.{figures, listing_is}
use Rattle.listing.proofs.put_judged.Statement.{statement}
use Rattle.listing.proofs.put_judged.Tie as tie

-- ---- places: the entry of the function, the call of `areas`, the call of `lay_areas`, the call of `repair`
abbrev entry : tie.After-shared_slice_known-4-1 → tie.Start
entry c = c.before.before.before.before.before

abbrev begun : tie.After-areas → tie.Start
begun c = entry c.before.before

abbrev summed : tie.After-lay_areas → tie.After-areas
summed c = c.before.before.before

abbrev start : tie.After-lay_areas → tie.Start
start c = begun (summed c)

abbrev laid : tie.After-repair-done → tie.After-lay_areas
laid c = c.before.before.before

-- The judged sheet j stands in the lists, and how many owner sets there are.
abbrev Stands : tie.Start → Judged → Type 0
Stands c j = let a = c.args in JudgedHeld j a.numbers.now a.opposite.now a.sets.now

abbrev many : tie.Start → ℕ
many c = length c.args.sets.now

-- How many polygons there are, as it stands in the numbers.
abbrev polygons : tie.Start → ℕ
polygons c = get_or c.args.numbers.now (1 + 6 * many c) 0 - 10_000_000

polygons_are : (c : tie.Start) (j : Judged) → Stands c j → polygons c ≡ length j.sheet.polygons
polygons_are c j w = omega (arith, (polygons_at w).1)

polygons_few : (c : tie.Start) → polygons c ≤ 64
polygons_few c = let (j, w) = c.requires.0 in omega (arith, polygons_are c j w, w.held.few_polygons)

-- ---- the double areas of the polygons: one for each, at the front of the work list
abbrev doubles : tie.After-areas → List ℕ
doubles c = c.areas.new.areas

doubles_many : (c : tie.After-areas) → length (doubles c) ≡ polygons (begun c)
doubles_many c = c.areas.auto.areas ∙ length-take-le _ _ (polygons_few (begun c))

doubles_are : (c : tie.After-areas) (j : Judged) → Stands (begun c) j → doubles c ≡ map (λ (m : Member). of_z w64 (double_area m)) j.sheet.polygons
doubles_are c j w = c.areas.ensures members j.sheet w.size w.held w.rings (sym (polygons_are (begun c) j w) ∙ sym (length-take-le _ _ (polygons_few (begun c))))

doubles_room : (c : tie.After-areas) (rest : List ℕ) → polygons (begun c) ≤ length (doubles c ++ rest)
doubles_room c rest = omega (arith, length-append (doubles c) rest, doubles_many c)

-- ---- the areas and the owner numbers that were left: one for each triangle, at the front of the work lists
abbrev areas : tie.After-lay_areas → List ℕ
areas c = c.lay_areas.new.areas

areas_many : (c : tie.After-lay_areas) → length (areas c) ≡ many (start c)
areas_many c = c.lay_areas.auto.areas ∙ length-take-le _ _ (few (start c).requires.0.1)

areas_are : (c : tie.After-lay_areas) (j : Judged) → Stands (start c) j → AreasOf j.sheet (areas c)
areas_are c j w = c.lay_areas.ensures j _ _ w (sym (length-take-le _ _ (few w)))

areas_room : (c : tie.After-lay_areas) (rest : List ℕ) → many (start c) ≤ length (areas c ++ rest)
areas_room c rest = omega (arith, length-append (areas c) rest, areas_many c)

abbrev owners : tie.After-repair-done → List ℕ
owners c = c.repair-done.new.owners

owners_many : (c : tie.After-repair-done) → length (owners c) ≡ many (start (laid c))
owners_many c = c.repair-done.auto.owners ∙ length-take-le _ _ (few (start (laid c)).requires.0.1)

owners_room : (c : tie.After-repair-done) (rest : List ℕ) → many (start (laid c)) ≤ length (owners c ++ rest)
owners_room c rest = omega (arith, length-append (owners c) rest, owners_many c)

-- ---- the lines by them
figures_are : (c : tie.After-repair-done) (x y : List ℕ) → x ≡ owners c → y ≡ areas (laid c) → Figures (start (laid c)).args.sets.now x y
figures_are c x y e f = let p = (start (laid c)).requires.0 in rw (e, f) (figures p.1 (owners c) (areas_are (laid c) p.0 p.1) (owners_many c) (doubles_are (summed (laid c)) p.0 p.1))

lines_are : (c : tie.After-repair-done) (j : Judged) → Stands (start (laid c)) j → (d x y : List ℕ) → d ≡ doubles (summed (laid c)) → x ≡ owners c → y ≡ areas (laid c)
    → let a = (start (laid c)).args in lines_by (told c.repair-done.result) d a.sets.now x y ≡ listing_of a.way j
lines_are c j w d x y g e f = rw (g, e, f) (listing_is w (owners c) (areas_are (laid c) j w) (owners_many c) (doubles_are (summed (laid c)) j w) _ c.repair-done.result c.repair-done.ensures)

few_lines : (c : tie.After-areas) (d : List ℕ) → d ≡ doubles c → length d ≤ 64
few_lines c d e = omega (arith, ap length e, doubles_many c, polygons_few (begun c))

areas_requires : tie.Need-areas-requires
areas_requires c κs =
    let s = entry c.before in
    let (j, w) = s.requires.0 in
    (members, j.sheet, w.size, w.held, w.rings, sym (polygons_are s j w) ∙ sym (length-take-le _ _ (polygons_few s)))

lay_areas_requires : tie.Need-lay_areas-requires
lay_areas_requires c κs = let w = (begun c.before.before).requires.0 in (w.0, _, _, w.1, sym (length-take-le _ _ (few w.1)))

repair_requires : tie.Need-repair-done-requires
repair_requires c κs = let w = (start c.before.before).requires.0.1 in (pairs w, length-take-le _ _ (few w), few w, table_in w)

put_repaired_requires : tie.Need-put_repaired-requires
put_repaired_requires c κs =
    let r = c.before.before.before.before.before in
    let l = laid r in (
      figures_are r _ _ (take_at (owners r) _ _ (owners_many r)) (take_at (areas l) _ _ (areas_many l)),
      few_lines (summed l) _ (take_at (doubles (summed l)) _ _ (doubles_many (summed l))),
      (start l).requires.1,
    )

returns : tie.Need-returns
returns c =
    let p = c.put_repaired in
    let r = c.before.before.before.before.before.before.before.before in
    let l = laid r in (
      p.ensures.0,
      λ j w. subst (λ lines. Put 0 lines (start l).args.text.now p.result p.new.text)
          (lines_are r j w _ _ _ (take_at (doubles (summed l)) _ _ (doubles_many (summed l))) (take_at (owners r) _ _ (owners_many r)) (take_at (areas l) _ _ (areas_many l))) p.ensures.1,
    )

pub put_judged_spec : {M : Type 1} → statement M
put_judged_spec =
    tie.close
    (tie.spec
    (λ c. search rules)
    (λ c. search rules)
    (λ c. omega (arith, few c.requires.0.1))
    (λ c. (polygons_at c.requires.0.1).0)
    (λ c. omega (arith, (polygons_at (entry c).requires.0.1).1))
    (λ c. omega (arith, polygons_few (entry c)))
    (λ c. polygons_few (entry c))
    (λ c. sym (length-take-le _ _ (polygons_few (entry c.before))))
    areas_requires
    (λ c. few (begun c.before).requires.0.1)
    (λ c. sym (length-take-le _ _ (few (begun c.before.before).requires.0.1)))
    lay_areas_requires
    (λ c. few (start c.before).requires.0.1)
    (λ c. sym (length-take-le _ _ (few (start c.before.before).requires.0.1)))
    repair_requires
    (λ c. doubles_room (summed (laid c.before.before)) _)
    (λ c. sym (length-take-le _ _ (doubles_room (summed (laid c.before.before.before)) _)))
    (λ c. owners_room c.before.before.before _)
    (λ c. sym (length-take-le _ _ (owners_room c.before.before.before.before _)))
    (λ c. areas_room (laid c.before.before.before.before) _)
    (λ c. sym (length-take-le _ _ (areas_room (laid c.before.before.before.before.before) _)))
    put_repaired_requires
    (λ c. search rules)
    returns)
