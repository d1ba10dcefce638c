-- `plane_exact::on_way` meets its contract: the corners of the three numbers are handed to `strictly_between`. Assumes nothing.
use mathlib.Core.Path.{sym, ◌∙◌, subst}
use borrow.Author.Rules.{rules}
use Rattle.plane.specs.Keys.{InRange, point_at}
use Rattle.plane_exact.proofs.on_way.Statement.{statement}
use Rattle.plane_exact.proofs.on_way.Tie as tie

corner_at_requires : tie.Need-corner_at-requires
corner_at_requires c κs = search rules

corner_at_requires_2 : tie.Need-corner_at-requires-2
corner_at_requires_2 c κs = search rules

corner_at_requires_3 : tie.Need-corner_at-requires-3
corner_at_requires_3 c κs = search rules

strictly_between_requires : tie.Need-strictly_between-requires
strictly_between_requires c κs =
    let d = c.before in
    let a = d in
    let pre = a.requires in
    (subst InRange (sym a.corner_at.ensures) pre.0, subst InRange (sym d.corner_at-2.ensures) pre.1, subst InRange (sym c.corner_at-3.ensures) pre.2)

returns : tie.Need-returns
unfolding point_at
returns c =
    let e = c.before in
    let d = e.before in
    let a = d in
    c.strictly_between.ensures ∙ rw (a.corner_at.ensures, d.corner_at-2.ensures, e.corner_at-3.ensures)

pub on_way_spec : {M : Type 1} → statement M
on_way_spec = tie.close (tie.spec corner_at_requires corner_at_requires_2 corner_at_requires_3 strictly_between_requires returns)
