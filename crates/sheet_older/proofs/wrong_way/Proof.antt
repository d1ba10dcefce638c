-- `sheet_older::wrong_way` meets its contract, one way for a first ring and one for a later one. Assumes nothing.
use mathlib.Core.Path.{refl}
use mir.Syntax.{w64}
use mir.Facts.{to_z-of_z}
use Rattle.sheet_older.proofs.wrong_way.Statement.{statement}
use Rattle.sheet_older.proofs.wrong_way.Tie as tie

returns : tie.Need-returns-then-first
returns c = rw (c.if-first.true, to_z-of_z {w = w64} c.ranges.area) refl

returns_2 : tie.Need-returns
returns_2 c = rw (c.if-first.false, to_z-of_z {w = w64} c.ranges.area) refl

pub wrong_way_spec : {M : Type 1} → statement M
wrong_way_spec = tie.close (tie.spec returns returns_2)
