-- At the end the sides of the marked triangles have been met, in another order. Assumes nothing.
use Rattle.std.proofs.Common.{arith, ◌≡◌, ◌<◌, ◌+◌, ◌-◌, get_or, take, drop, length, ap}
use lib.ListN.{length-drop, length-take}
use Rattle.std.proofs.lemmas.Grind.{common_steps}
use Rattle.repair_choices.specs.Adding.{sides_met}
use Rattle.repair_choices.proofs.Adding.{adding_none}
use Rattle.repair_choices.proofs.Rearranged.{met_longest}
use Rattle.repair_longest.specs.Held.{lengths_held}
use Rattle.repair_longest.proofs.Held.{length_met, met_more, adding_to}
use Rattle.repair_longest.proofs.longest.Goals as goal

pub loop-u-init : goal.loop-u-init
loop-u-init c = adding_none

pub add_triangle-best-requires : goal.add_triangle-best-requires
add_triangle-best-requires c =
    let a = c.args in
    let p = c.requires in
    let i = c.loop-u.u-index in
    let here : get_or (take (a.n - a.first) (drop a.first a.group.now)) i 0 ≡ get_or a.group.now (a.first + i) 0 = grind (arith, common_steps) in
    let within : i < a.n - a.first = omega (arith, length-take (a.n - a.first) (drop a.first a.group.now)) in
    (p.0, p.1, p.2, rw here (p.6 (a.first + i) (omega arith)), (_, c.loop-u.invariant, omega (arith, length_met a.group.now a.first i, p.5)))

pub loop-u-preserved : goal.loop-u-preserved
loop-u-preserved c =
    let a = c.args in
    let i = c.loop-u.u-index in
    let here : get_or (take (a.n - a.first) (drop a.first a.group.now)) i 0 ≡ get_or a.group.now (a.first + i) 0 = grind (arith, common_steps) in
    adding_to (met_more a.group.now a.first i _ here) (c.add_triangle-best.ensures _ c.loop-u.invariant)

pub returns : goal.returns
returns c = λ marks is.
    let a = c.args in
    let p = c.requires in
    let end : c.loop-u.u-index ≡ a.n - a.first = omega (arith, length-take (a.n - a.first) (drop a.first a.group.now), length-drop a.first a.group.now, p.4, c.loop-u.auto.u-index-end) in
    met_longest is (lengths_held a.table.now (length a.opposite.now)) a.opposite.now a.numbers.now (length a.numbers.now) p.0.sides p.6 p.3 c.loop-u.best
    (adding_to (ap (sides_met a.group.now a.first) end) c.loop-u.invariant).favours
