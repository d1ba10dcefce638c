-- `sheet_envelope::bound` meets its contract: a held number less 10,000,000 is a double exactly. Assumes nothing.
use mathlib.Core.Path.{◌≡◌, refl}
use native.Mathlib.Omega.{arith}
use borrow.Author.Rules.{rules}
use lib.Dec.{lit<}
use lib.IntN.{pos}
use mir.Syntax.{w64}
use mir.Val.{to_z, of_z}
use mir.ValLaws.{to_z_pos}
use Rattle.whole.specs.Numbers.{Within}
use Rattle.whole.proofs.Bound.{within_gap, within_fits, exact}
use Rattle.plane.specs.Corners.{millimetres}
use Rattle.lent_fields.proofs.Doubles.{in_float_lem}
use Rattle.sheet_envelope.proofs.bound.Statement.{statement}
use Rattle.sheet_envelope.proofs.bound.Tie as tie

near : (c : tie.Start) → Within 4294967296 (millimetres c.args.h)
near c = within_gap 4294967296 10_000_000 c.args.h (omega arith) (omega arith)

-- The difference, and what is read back of it from 64 bits.
plain : (c : tie.Start) → to_z w64 c.args.h ≡ pos c.args.h
plain c = to_z_pos w64 c.args.h (omega arith)

itself : (c : tie.Start) → to_z w64 (of_z w64 (millimetres c.args.h)) ≡ millimetres c.args.h
itself c = exact 4294967296 (millimetres c.args.h) (lit< tt) (near c)

pub bound_spec : {M : Type 1} → statement M
bound_spec =
    tie.close
    (tie.spec
    (λ c. search rules)
    (λ c. search rules)
    (λ c. rw (plain c) (within_fits 4294967296 (millimetres c.args.h) (lit< tt) (near c)))
    (λ c. rw (plain c.before, itself c.before) (in_float_lem _ (near c.before)))
    (λ c. rw (plain c.before, itself c.before) refl))
