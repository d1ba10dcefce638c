-- `repair_longest::add_triangle` meets its contract: three sides in turn. Assumes nothing.
use native.Mathlib.Omega.{arith}
use borrow.Author.Rules.{rules}
use Rattle.repair_longest.proofs.add_triangle.Statement.{statement}
use Rattle.repair_longest.proofs.add_triangle.Tie as tie

-- ---- places: the entry of the function, and the calls for the first and the second side
abbrev start : tie.After-add_side-a → tie.Start
start c = c.before.before.before.before.before.before

abbrev one : tie.After-add_side-b → tie.After-add_side-a
one c = c.before.before.before.before

add_side_requires : tie.Need-add_side-a-requires
add_side_requires c κs =
    let p = c.requires in
    (p.0, p.1, p.2, omega (arith, p.0.sides, p.3), (p.4.0, p.4.1, omega (arith, p.4.2)))

add_side_requires_2 : tie.Need-add_side-b-requires
add_side_requires_2 c κs =
    let a = c.before.before.before in
    let p = (start a).requires in
    (p.0, p.1, p.2, omega (arith, p.0.sides, p.3), (_, a.add_side-a.ensures p.4.0 p.4.1, omega (arith, p.4.2)))

add_side_requires_3 : tie.Need-add_side-requires
add_side_requires_3 c κs =
    let b = c.before.before.before in
    let a = one b in
    let p = (start a).requires in
    (p.0, p.1, p.2, omega (arith, p.0.sides, p.3), (_, b.add_side-b.ensures _ (a.add_side-a.ensures p.4.0 p.4.1), omega (arith, p.4.2)))

returns : tie.Need-returns
returns c = λ sides is.
    let d = c.before.before in
    let b = d.before.before.before.before in
    d.add_side.ensures _ (b.add_side-b.ensures _ ((one b).add_side-a.ensures sides is))

pub add_triangle_spec : {M : Type 1} → statement M
add_triangle_spec =
    tie.close
    (tie.spec
    (λ c. search rules)
    add_side_requires
    (λ c. search rules)
    add_side_requires_2
    (λ c. search rules)
    add_side_requires_3
    (λ c. search rules)
    returns)
