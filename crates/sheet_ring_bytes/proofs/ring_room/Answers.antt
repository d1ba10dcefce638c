-- What `found` left are so many sides in so many rings, and their bytes are as many as `room_of` says. Assumes nothing.
use Rattle.std.proofs.Common.{◌∙◌, ◌*◌, [], map, sym, ap}
use Rattle.lent.specs.Stages.{and_then}
use Rattle.lent.specs.Answered.{answer_of}
use Rattle.sheet_ring_bytes.specs.Lines.{room_outcome}
use Rattle.sheet_ring_bytes.specs.Held.{line_held, polygon_rings}
use Rattle.sheet_ring_bytes.proofs.Standing.{standing_room}
use Rattle.sheet_ring_bytes.proofs.ring_room.Goals as goal

pub returns : goal.returns
returns c =
    let a = c.args in
    let (l, e, stand) = c.in_ok-joined.ensures in
    ap (λ n. n * 256) (c.room.ensures ∙ sym (standing_room a.numbers.now (c.requires.3 l e) stand))
    ∙ sym (ap (λ x. answer_of (and_then x (λ l. room_outcome (map (line_held a.numbers.now) (polygon_rings a.opposite.now l a.polygon)))) []) e)
