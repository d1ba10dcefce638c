-- The level falls: a thing counts things one level below, and things are walked over at their own. In the loop the things behind, with those to come, are all of them.
use Rattle.std.proofs.Common.{◌+◌, ◌*◌}
use Rattle.sheet_form.specs.Form.{numbers_in}
use Rattle.sheet_writer.specs.Emit.{emit}
use Rattle.sheet_writer.proofs.Goes.{Between}
use Rattle.sheet_writer.proofs.+thing_things.Given as goal

abbrev pub decreases-thing : goal.decreases-thing
decreases-thing l = 2 * l.level

abbrev pub decreases-things : goal.decreases-things
decreases-things l = 2 * l.level + 1

abbrev pub invariant-things-loop : goal.invariant-things-loop
invariant-things-loop l = Between (emit l.level) (numbers_in l.numbers) l.n l.fn.w l.fn.out l.counter l.v l.out
