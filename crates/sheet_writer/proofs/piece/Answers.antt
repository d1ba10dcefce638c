-- A Triangle's header and count, three points from there, and the first point's patterns once more.
use Rattle.std.proofs.Common.{refl, arith}
use Rattle.sheet_writer.proofs.Numbers.{numbers_length}
use Rattle.sheet_writer.proofs.Points.{patterns_left, pair}
use Rattle.sheet_writer.proofs.Triangles.{no_piece, wrote_front, ringed_fair, piece_stops, piece_goes}
use Rattle.sheet_writer.proofs.piece.Goals as goal

pub overflow_sub-numbers : goal.overflow_sub-numbers
overflow_sub-numbers c = omega (arith, numbers_length c.args.numbers.now, c.requires.0.at_most)

pub returns-then-numbers-w-lt6 : goal.returns-then-numbers-w-lt6
returns-then-numbers-w-lt6 c = (no_piece _ _ c.if-numbers-w-lt6.true, refl)

pub returns-in_err-v : goal.returns-in_err-v
returns-in_err-v c = rw c.from_residual.ensures
    (piece_stops (record { fair = ringed_fair c.requires.0 c.requires.1; behind = c.put.new.out; fronted = wrote_front _ _ c.header.ensures c.put.ensures; went = c.in_err-v.ensures }))

pub returns : goal.returns
returns c =
    piece_goes (record { fair = ringed_fair c.requires.0 c.requires.1; behind = c.put.new.out; fronted = wrote_front _ _ c.header.ensures c.put.ensures; went = c.in_ok-v.ensures })
    (pair (omega (arith, c.if-numbers-w-lt6.false)) c.bits.ensures c.bits-2.ensures) _
    (patterns_left _ _ c.pattern.ensures c.pattern-2.ensures c.put-2.ensures c.put-3.ensures)
