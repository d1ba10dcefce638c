-- What `found` left, cut apart by its ends, are the rings, and as many bytes as `room_of` says are written of them. Assumes nothing.
use Rattle.std.proofs.Common.{arith, ◌≡◌, ◌≤◌, ◌∙◌, ◌+◌, ◌*◌, List, ℕ, map, length, drop, sym, ap, subst}
use mathlib.Core.List.{◌++◌}
use mathlib.Core.Path.{ap₂}
use lib.ListN.{length-replicate}
use lib.Seq.{sets, sets-eq, length-take-le}
use Rattle.whole.specs.Sums.{All}
use Rattle.lent.specs.Stages.{and_then}
use Rattle.lent.specs.Answered.{Answered}
use Rattle.lent.proofs.Answered.{answered_short, answered_bytes}
use Rattle.lent_little.specs.Held.{SideIn}
use Rattle.owners_marks.specs.Sets.{owners_of}
use Rattle.repair_longest.specs.Held.{lengths_held}
use Rattle.sheet_ring_bytes.specs.Lines.{line_bytes, lines_outcome}
use Rattle.sheet_ring_bytes.specs.Held.{line_held, polygon_rings, rings_outcome, rings_in}
use Rattle.sheet_ring_bytes.proofs.Standing.{cut_again, rising, standing_room, rings_in_lem}
use Rattle.sheet_ring_bytes.proofs.rings.Goals as goal

over : (o l : List ℕ) → length l ≤ length o → sets o 0 l ≡ l ++ drop (length l) o
over o l h = let z : 0 + length l ≡ length l = omega arith in sets-eq l o 0 (omega arith) ∙ ap (λ n. l ++ drop n o) z

pub returns-then-out-size : goal.returns-then-out-size
returns-then-out-size c =
    let a = c.args in
    let (l, e, stand) = c.in_ok-joined.ensures in
    let text = line_bytes (map (line_held a.numbers.now) (polygon_rings a.opposite.now l a.polygon)) in
    answered_short _ _ (length text) text (ap (λ x. and_then x (λ l. lines_outcome (map (line_held a.numbers.now) (polygon_rings a.opposite.now l a.polygon)))) e)
    (omega (arith, standing_room a.numbers.now (c.requires.3 l e) stand, c.room-size.ensures, c.if-out-size.true))

pub put_lines-requires : goal.put_lines-requires
put_lines-requires c =
    let a = c.args in
    let (l, e, stand) = c.in_ok-joined.ensures in
    let j = c.in_ok-joined.joined in
    let rings = polygon_rings a.opposite.now l a.polygon in
    let many = length-take-le j.sides c.found.new.order stand.order_room in
    let few = length-take-le j.rings c.found.new.ends stand.ends_room in (
      subst (All (SideIn a.numbers.now)) (sym stand.sides) (rings_in_lem a.opposite.now c.requires.0 l a.polygon a.numbers.now c.requires.2.room),
      rw (stand.sides, stand.ended) (rising rings (c.requires.3 l e)),
      omega (arith, many, stand.order_room, c.found.auto.order ∙ length-replicate {A = ℕ} 3072 0),
      omega (arith, few, stand.ends_room, c.found.auto.ends ∙ length-replicate {A = ℕ} 3072 0),
    )

pub returns : goal.returns
returns c =
    let a = c.args in
    let out = a.out.now in
    let (l, e, stand) = c.in_ok-joined.ensures in
    let rings = polygon_rings a.opposite.now l a.polygon in
    let text = line_bytes (map (line_held a.numbers.now) rings) in
    let long : length text ≡ c.room-size.result = standing_room a.numbers.now (c.requires.3 l e) stand ∙ sym c.room-size.ensures in
    subst (λ m. Answered (rings_outcome a.numbers.now a.way (lengths_held a.numbers.now (length a.opposite.now)) a.opposite.now (map owners_of a.sets.now) a.polygon) out (m * 256) c.put_lines.new.out) long
    (answered_bytes _ _ (length text) text (ap (λ x. and_then x (λ l. lines_outcome (map (line_held a.numbers.now) (polygon_rings a.opposite.now l a.polygon)))) e) _
    (omega (arith, long, c.if-out-size.false))
    (c.put_lines.ensures
    ∙ ap₂ (λ o n. sets out 0 (line_bytes (map (line_held a.numbers.now) (rings_in 0 o n)))) stand.sides stand.ended
    ∙ ap (λ l. sets out 0 (line_bytes (map (line_held a.numbers.now) l))) (cut_again rings)
    ∙ over out text (omega (arith, long, c.if-out-size.false))))
