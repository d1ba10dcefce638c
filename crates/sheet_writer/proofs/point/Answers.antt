-- The two numbers are those at the front of what is left, and their patterns stand one behind the other.
use Rattle.std.proofs.Common.{refl, sym, ◌∙◌, arith}
use Rattle.sheet_writer.proofs.Numbers.{numbers_length}
use Rattle.sheet_writer.proofs.Points.{patterns_left, pair, no_pair, tested, point_goes}
use Rattle.sheet_writer.proofs.point.Goals as goal

pub overflow_sub-numbers : goal.overflow_sub-numbers
overflow_sub-numbers c = omega (arith, numbers_length c.args.numbers.now, c.requires.at_most)

pub returns-then-numbers-w-lt2 : goal.returns-then-numbers-w-lt2
returns-then-numbers-w-lt2 c = (no_pair _ _ c.if-numbers-w-lt2.true, refl)

pub returns-then-not-in_range : goal.returns-then-not-in_range
returns-then-not-in_range c = let b = pair {w = c.args.w} (omega (arith, c.if-numbers-w-lt2.false)) c.bits-x.ensures c.bits-y.ensures in (tested b ∙ (rw (sym c.in_range.ensures ∙ c.if-not-in_range.true) refl), refl)

pub returns-then-not-in_range-2 : goal.returns-then-not-in_range-2
returns-then-not-in_range-2 c =
    let b = pair {w = c.args.w} (omega (arith, c.if-numbers-w-lt2.false)) c.bits-x.ensures c.bits-y.ensures in
    (tested b ∙ (rw (sym c.in_range.ensures ∙ c.if-not-in_range.false, sym c.in_range-2.ensures ∙ c.if-not-in_range-2.true) refl), refl)

pub returns : goal.returns
returns c =
    let b = pair {w = c.args.w} (omega (arith, c.if-numbers-w-lt2.false)) c.bits-x.ensures c.bits-y.ensures in
    point_goes b (sym c.in_range.ensures ∙ c.if-not-in_range.false) (sym c.in_range-2.ensures ∙ c.if-not-in_range-2.false) _ _
    (patterns_left _ _ c.pattern.ensures c.pattern-2.ensures c.put.ensures c.put-2.ensures)
