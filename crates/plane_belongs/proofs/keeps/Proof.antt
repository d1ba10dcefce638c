-- `plane_belongs::keeps` meets its contract: the turn is exact, and 0 on the side's line. Assumes nothing.
use mathlib.Core.Path.{◌≡◌, sym, ◌∙◌, ap, ap₂}
use lib.IntN.{pos}
use lib.Signed.{lt_z}
use mir.Syntax.{w32, w64}
use mir.Val.{to_z, of_z}
use mir.Facts.{to_z-of_z}
use borrow.Author.Rules.{rules}
use Rattle.whole.proofs.Bound.{returned}
use Rattle.plane.specs.Points.{◌⟶◌, turn}
use Rattle.plane.specs.Keys.{point}
use Rattle.plane_belongs.proofs.Kept.{on_line, off_line}
use Rattle.plane_belongs.proofs.keeps.Statement.{statement}
use Rattle.plane_belongs.proofs.keeps.Tie as tie

-- ---- what stands there: the turn to the point, which is read back from its 32 bits
turn_is : (c : tie.After-turn-t) → let a = c.args in c.turn-t.result ≡ turn (point a.u) (point a.v) (record { x = a.x; y = a.y })
turn_is c =
    let s = c in
    c.turn-t.ensures ∙ ap₂ (λ x y. turn (point s.args.u) (point s.args.v) (record { x = x; y = y })) (to_z-of_z {w = w32} s.ranges.x) (to_z-of_z {w = w32} s.ranges.y)

returns : tie.Need-returns-then-t-eq0
returns c =
    let b = c.before in
    let t = b.turn-t in
    let a = b.args in
    c.leans.ensures ∙ sym (on_line (record { x = a.x; y = a.y }) (point a.u ⟶ point a.v) (sym (turn_is b.before) ∙ sym (returned t.result t.type_inv) ∙ ap (to_z w64) b.if-t-eq0.true))

returns_2 : tie.Need-returns
returns_2 c =
    let t = c.turn-t in
    let a = c.args in
    ap (lt_z (pos 0)) (returned t.result t.type_inv ∙ turn_is c.before)
    ∙ sym (off_line (record { x = a.x; y = a.y }) (point a.u ⟶ point a.v) (λ e. c.if-t-eq0.false (ap (of_z w64) (turn_is c.before ∙ e))))

pub keeps_spec : {M : Type 1} → statement M
keeps_spec = tie.close (tie.spec (λ c κs. search rules) (λ c κs. search rules) returns returns_2)
