-- `sheet_writer::closes` meets its contract: only a ring's points are looked at. Assumes nothing.
use mathlib.Core.Path.{◌∙◌, sym}
use Rattle.sheet_writer.proofs.Levels.{ring_count, closes_ring, closes_other}
use Rattle.sheet_writer.proofs.closes.Statement.{statement}
use Rattle.sheet_writer.proofs.closes.Tie as tie

ring_closes_requires : tie.Need-ring_closes-requires
ring_closes_requires c κs = let s = c in let h = ring_count _ _ c.if-level-eq1.true s.requires.1 in (s.requires.0, h.0, h.1)

pub closes_spec : {M : Type 1} → statement M
closes_spec =
    tie.close
    (tie.spec
    ring_closes_requires
    (λ c. c.ring_closes.ensures ∙ sym (closes_ring _ _ _ c.if-level-eq1.true))
    (λ c. sym (closes_other _ _ _ c.if-level-eq1.false)))
