-- The codes of the sides of the first triangles, and those that are left to lay down, are together the whole.
use Rattle.std.proofs.Common.{◌≡◌, ◌*◌, ◌++◌, take, drop}
use Rattle.table.specs.Sides.{tails_of}
use Rattle.table_sides.specs.Codes.{codes_of}
use Rattle.table_index.proofs.codes.Given as goal

abbrev pub invariant-loop-t : goal.invariant-loop-t
invariant-loop-t l = codes_of l.corners l.keys (tails_of l.keys) ≡ take (3 * l.t) l.codes ++ codes_of l.corners (drop (3 * l.t) l.keys) (tails_of (drop (3 * l.t) l.keys))
