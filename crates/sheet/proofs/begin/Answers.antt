-- The number of the member's polygons will stand where the next number goes.
use Rattle.std.proofs.Common.{length}
use Rattle.sheet.specs.Reading.{marked}
use Rattle.sheet.proofs.begin.Goals as goal

pub returns : goal.returns
returns c =
    let p = c.push.ensures in (
      p.0,
      λ t out h. p.1 (marked (length t.numbers) t) out
          (record { fill = h.fill; laid_over = h.laid_over; mark = h.fill; first = h.first; x = h.x; y = h.y }),
    )
