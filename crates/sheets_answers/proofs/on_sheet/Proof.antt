-- `sheets_answers::on_sheet` meets its contract: the number of polygons stands behind the table. Assumes nothing.
use mathlib.Core.Path.{◌≡◌, sym, ◌∙◌, ap, ap₂, subst}
use mathlib.Core.Bool.{false, ◌&&◌}
use mathlib.Core.List.{List}
use Prim.Native.Nat.{ℕ, ◌+◌, ◌-◌, ◌*◌, ◌≤◌, ◌<◌}
use native.Mathlib.Omega.{arith}
use borrow.Author.Tests.{le-leb}
use lib.Dec.{leb}
use lib.ListN.{length, get_or}
use Rattle.judged.specs.Judged.{Judged}
use Rattle.judged.specs.Held.{JudgedHeld}
use Rattle.judged.proofs.Standing.{few, polygons_at}
use Rattle.outcomes.specs.Entries.{on_sheet}
use Rattle.sheets_answers.proofs.on_sheet.Statement.{statement}
use Rattle.sheets_answers.proofs.on_sheet.Tie as tie

-- What the caller tells: so many polygons stand behind the triangles.
pub record Counted (numbers : List ℕ) (triangles polygons : ℕ) : Type 0 where
  pub small : triangles ≤ 1024
  pub inside : 1 + 6 * triangles < length numbers
  pub are : get_or numbers (1 + 6 * triangles) 0 ≡ polygons + 10_000_000

counted : {j : Judged} {numbers opposite sets : List ℕ} {triangles : ℕ} → JudgedHeld j numbers opposite sets → length sets ≡ triangles → Counted numbers triangles (length j.sheet.polygons)
counted {j = j} {numbers = numbers} w e = subst (λ t. Counted numbers t (length j.sheet.polygons)) e (record { small = few w; inside = (polygons_at w).0; are = (polygons_at w).1 })

told : (o : tie.Start) → Counted o.args.numbers.now o.args.triangles (length o.requires.0.sheet.polygons)
told o = counted o.requires.3 o.requires.4

returns : tie.Need-returns-then-polygon-eq0
returns c = λ j opposite sets w e. sym (ap (λ p. leb 1 p && leb p (length j.sheet.polygons)) c.if-polygon-eq0.true)

returns_2 : tie.Need-returns
returns_2 c = λ j opposite sets w e.
    let o = c in
    let k = counted w e in
    ap (leb o.args.polygon) (omega (arith, k.are)) ∙ sym (ap (λ b. b && leb o.args.polygon (length j.sheet.polygons)) (le-leb 1 o.args.polygon (omega (arith, c.if-polygon-eq0.false))))

pub on_sheet_spec : {M : Type 1} → statement M
on_sheet_spec =
    tie.close
    (tie.spec
    returns
    (λ c. omega (arith, (told c.before).small))
    (λ c. omega (arith, (told c.before).small))
    (λ c. omega (arith, (told c.before).small))
    (λ c. (told c.before.before).inside)
    (λ c. omega (arith, (told c.before.before).are))
    returns_2)
