-- The pieces behind, with those to come, are all of them.
use Rattle.sheet_form.specs.Form.{numbers_in}
use Rattle.sheet_writer.specs.Emit.{emit_piece}
use Rattle.sheet_writer.proofs.Goes.{Between}
use Rattle.sheet_writer.proofs.pieces.Given as goal

abbrev pub invariant-loop : goal.invariant-loop
invariant-loop l = Between emit_piece (numbers_in l.numbers) l.n l.fn.w l.fn.out l.counter l.v l.out
