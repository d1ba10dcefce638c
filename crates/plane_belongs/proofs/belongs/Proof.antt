-- `plane_belongs::belongs` meets its contract, side by side. Assumes nothing.
use mathlib.Core.Path.{◌≡◌, sym, ◌∙◌, ap₂}
use mathlib.Core.Bool.{Bool}
use mir.Syntax.{w32}
use mir.Val.{to_z, of_z}
use mir.Facts.{to_z-of_z}
use borrow.Author.Rules.{rules}
use Rattle.plane.specs.Points.{Point, Triangle, ◌⟶◌}
use Rattle.plane.specs.Keys.{point}
use Rattle.plane.specs.declared.Corner.{Corner}
use Rattle.plane_winding.specs.Winding.{keeps}
use Rattle.plane_belongs.proofs.Kept.{not_by_first, not_by_second, by_third}
use Rattle.plane_belongs.proofs.belongs.Statement.{statement}
use Rattle.plane_belongs.proofs.belongs.Tie as tie

-- ---- what stands there: what each side says, of the point read back from its 32 bits
module _ (s : tie.Start) where
  abbrev a : Corner
  a = s.args.a

  abbrev b : Corner
  b = s.args.b

  abbrev o : Corner
  o = s.args.c

  abbrev z : Point
  z = record { x = s.args.x; y = s.args.y }

  abbrev t : Triangle
  t = record { a = point a; b = point b; c = point o }

  same : (u v : Corner) (r : Bool) → r ≡ keeps (record { x = to_z w32 (of_z w32 s.args.x); y = to_z w32 (of_z w32 s.args.y) }) (point u ⟶ point v) → r ≡ keeps z (point u ⟶ point v)
  same u v r e = e ∙ ap₂ (λ x y. keeps (record { x = x; y = y }) (point u ⟶ point v)) (to_z-of_z {w = w32} s.ranges.x) (to_z-of_z {w = w32} s.ranges.y)

first : (c : tie.After-keeps) → c.keeps.result ≡ keeps (z c.before) (point (a c.before) ⟶ point (b c.before))
first c = same c.before (a c.before) (b c.before) _ c.keeps.ensures

second : (c : tie.After-keeps-2) → let s = c.before.before.before in c.keeps-2.result ≡ keeps (z s) (point (b s) ⟶ point (o s))
second c = let s = c.before.before.before in same s (b s) (o s) _ c.keeps-2.ensures

returns : tie.Need-returns-then-not-keeps
returns c = let s = c.before.before in sym (not_by_first (z s) (t s) (sym (first c.before) ∙ c.if-not-keeps.true))

returns_2 : tie.Need-returns-then-not-keeps-2
returns_2 c =
    let e = c.before.before in
    let s = e.before.before in
    sym (not_by_second (z s) (t s) (sym (first e.before) ∙ e.if-not-keeps.false) (sym (second c.before) ∙ c.if-not-keeps-2.true))

returns_3 : tie.Need-returns
returns_3 c =
    let d = c.before in
    let e = d.before.before in
    let s = e.before.before in
    same s (o s) (a s) _ c.keeps-3.ensures ∙ sym (by_third (z s) (t s) (sym (first e.before) ∙ e.if-not-keeps.false) (sym (second d.before) ∙ d.if-not-keeps-2.false))

pub belongs_spec : {M : Type 1} → statement M
belongs_spec = tie.close (tie.spec (λ c κs. search rules) returns (λ c κs. search rules) returns_2 (λ c κs. search rules) returns_3)
