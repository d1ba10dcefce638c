-- `listing::lay_areas` meets its contract: the table's corners are laid down, and then their double areas. Assumes nothing.
use mathlib.Core.Path.{◌≡◌, sym, ◌∙◌, ap, subst}
use mathlib.Core.List.{List, [], map, ◌++◌}
use Prim.Native.Nat.{ℕ, ◌*◌, ◌≤◌}
use native.Mathlib.Omega.{arith}
use borrow.Author.Rules.{rules}
use lib.ListN.{length, take, length-append}
use lib.Seq.{length-take-le, take_at}
use Rattle.whole.specs.Sums.{All}
use Rattle.plane.specs.Points.{double}
use Rattle.plane.specs.Keys.{Key}
use Rattle.table.specs.Table.{RuleA}
use Rattle.table.specs.Sides.{triangles_of}
use Rattle.judged.specs.Judged.{Judged}
use Rattle.judged.specs.Held.{JudgedHeld}
use Rattle.judged.proofs.Repaired.{rules as table_rules}
use Rattle.judged.proofs.Standing.{few, sets_many}
use Rattle.listing.proofs.Front.{table_fits, table_held, table_front}
use Rattle.listing.proofs.lay_areas.Statement.{statement}
use Rattle.listing.proofs.lay_areas.Tie as tie

-- ---- places: the entry of the function, how many triangles there are, and the corners laid down
abbrev start : tie.After-corners → tie.Start
start c = c.before.before.before.before

abbrev many : tie.Start → ℕ
many c = length c.args.areas.now

abbrev keys : tie.After-corners → List ℕ
keys c = c.corners.new.keys

-- The sheet's table is of as many, and there is room for the corners of the largest one.
triangles : (c : tie.Start) → length c.requires.0.sheet.table ≡ many c
triangles c = sym (sets_many c.requires.3) ∙ c.requires.4

fits : (c : tie.Start) → 3 * many c ≤ 3072
fits c = omega (arith, few c.requires.3, c.requires.4)

-- As many corners are laid down as the table has, and they are the table's.
count : (c : tie.After-corners) → length (keys c) ≡ 3 * many (start c)
count c = c.corners.ensures.2 ∙ length-take-le _ _ (fits (start c))

laid : (c : tie.After-corners) {j : Judged} {opposite sets : List ℕ} → JudgedHeld j (start c).args.numbers.now opposite sets → length j.sheet.table ≡ many (start c) → triangles_of (keys c) ≡ j.sheet.table
laid c {j} w e = c.corners.ensures.0 j.sheet.table [] (table_front w e) (length-take-le _ _ (fits (start c)) ∙ ap (λ t. 3 * t) (sym e))

-- They stand at the front of the work list.
room : (c : tie.After-corners) (rest : List ℕ) → 3 * many (start c) ≤ length (keys c ++ rest)
room c rest = omega (arith, length-append (keys c) rest, count c)

front : (c : tie.After-corners) (rest : List ℕ) → take (3 * many (start c)) (keys c ++ rest) ≡ keys c
front c rest = take_at (keys c) rest _ (count c)

corners_requires : tie.Need-corners-requires
corners_requires c κs =
    let s = c.before.before.before in
    let p = s.requires in
    (table_held p.3 (triangles s), (p.0.sheet.table, [], table_front p.3 (triangles s), length-take-le _ _ (fits s) ∙ ap (λ t. 3 * t) (sym (triangles s))))

areas_requires : tie.Need-areas-requires
areas_requires c κs =
    let k = c.before.before.before in
    let w = (start k).requires.3 in (
      subst (All Key) (sym (front k _)) k.corners.ensures.1,
      subst (λ l. RuleA (triangles_of l)) (sym (front k _)) (subst RuleA (sym (laid k w (triangles (start k)))) (table_rules w.comes).0),
      ap length (front k _) ∙ count k,
    )

returns : tie.Need-returns
returns c = λ j opposite sets w e.
    let k = c.before.before.before.before.before.before in
    let a = c.areas.ensures in
    record { are = a.0 ∙ ap (λ l. map double (triangles_of l)) (front k _) ∙ ap (map double) (laid k w (sym (sets_many w) ∙ e)); small = a.1 }

pub lay_areas_spec : {M : Type 1} → statement M
lay_areas_spec =
    tie.close
    (tie.spec
    (λ c. search rules)
    (λ c. search rules)
    (λ c. let s = c.before.before in sym (length-take-le _ _ (table_fits s.requires.3 (triangles s))))
    (λ c. search rules)
    (λ c. fits c.before.before)
    (λ c. sym (length-take-le _ _ (fits c.before.before.before)))
    corners_requires
    (λ c. search rules)
    (λ c. room c.before _)
    (λ c. sym (length-take-le _ _ (room c.before.before _)))
    areas_requires
    (λ c. search rules)
    returns)
