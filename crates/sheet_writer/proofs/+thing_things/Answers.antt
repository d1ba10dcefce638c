-- A thing is its count and the things that it counts, and things that are walked over one behind the other are emitted in one.
use Rattle.std.proofs.Common.{◌≡◌, ◌/◌, ◌*◌, ℕ, true, List, length, refl, sym, ◌∙◌, arith}
use Rattle.lent_little.specs.Ordered.{word_at}
use Rattle.sheet_form.specs.Form.{numbers_in}
use Rattle.sheet_writer.specs.declared.Walk.{Walk}
use Rattle.sheet_writer.specs.Walks.{Fair}
use Rattle.sheet_writer.proofs.Goes.{passes, stops, ends}
use Rattle.sheet_writer.proofs.Levels.{emit_point_lem, emit_end, Counted, behind_count, miscounted, left_open, head_fair, thing_goes}
use Rattle.sheet_writer.proofs.Numbers.{numbers_length}
use Rattle.sheet_writer.proofs.+thing_things.Goals as goal

counted : {s : List ℕ} {w : Walk} {level n : ℕ} → Fair (numbers_in s) w → (level ≡ 0 → ⊥) → (length s / 4 ≡ w.at → ⊥) → n ≡ word_at true s (4 * w.at) → Counted s w level n
counted {s} f l m e = record { fair = f; no_point = l; enough = omega (arith, numbers_length s, f.at_most); is = e }

pub thing-returns-then-level-eq0 : goal.thing-returns-then-level-eq0
thing-returns-then-level-eq0 t c = rw (emit_point_lem _ c.if-level-eq0.true) c.point.ensures

pub thing-returns-then-numbers-w : goal.thing-returns-then-numbers-w
thing-returns-then-numbers-w t c = (emit_end _ _ _ c.if-level-eq0.false c.if-numbers-w.true, refl)

pub thing-bits-n-requires : goal.thing-bits-n-requires
thing-bits-n-requires t c = omega (arith, numbers_length c.args.numbers.now, c.requires.at_most, c.if-numbers-w.false)

pub thing-returns-then-not-count_fits : goal.thing-returns-then-not-count_fits
thing-returns-then-not-count_fits t c =
    (miscounted (counted c.requires c.if-level-eq0.false c.if-numbers-w.false c.bits-n.ensures) (sym c.count_fits.ensures ∙ c.if-not-count_fits.true), refl)

pub thing-closes-requires : goal.thing-closes-requires
thing-closes-requires t c = (behind_count (counted c.requires c.if-level-eq0.false c.if-numbers-w.false c.bits-n.ensures), sym c.count_fits.ensures ∙ c.if-not-count_fits.false)

pub thing-returns-then-not-closes : goal.thing-returns-then-not-closes
thing-returns-then-not-closes t c =
    (left_open (counted c.requires c.if-level-eq0.false c.if-numbers-w.false c.bits-n.ensures) (sym c.closes.ensures ∙ c.if-not-closes.true), refl)

pub thing-things-requires : goal.thing-things-requires
thing-things-requires t c = (
  omega (arith, c.decreases, c.if-level-eq0.false),
  head_fair (counted c.requires c.if-level-eq0.false c.if-numbers-w.false c.bits-n.ensures) c.head-v.result c.head-v.ensures.0,
)

pub thing-returns : goal.thing-returns
thing-returns t c =
    thing_goes (counted c.requires c.if-level-eq0.false c.if-numbers-w.false c.bits-n.ensures) (sym c.count_fits.ensures ∙ c.if-not-count_fits.false) (sym c.closes.ensures ∙ c.if-not-closes.false)
    c.head-v.result _ c.head-v.new.out c.head-v.ensures.0 c.head-v.ensures.1 c.things.result c.things.new.out c.things.ensures

pub things-returns-in_err-v : goal.things-returns-in_err-v
things-returns-in_err-v t c = rw c.from_residual.ensures (stops c.loop.invariant c.thing.new.out c.loop-test.true c.in_err-v.ensures)

pub things-loop-preserved : goal.things-loop-preserved
things-loop-preserved t c = passes c.loop.invariant c.thing.new.out c.loop-test.true c.in_ok-v.v c.in_ok-v.ensures

pub things-returns : goal.things-returns
things-returns t c = ends c.loop.invariant (omega arith)
