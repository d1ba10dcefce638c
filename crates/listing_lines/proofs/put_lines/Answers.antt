-- The lines behind the verdict stand behind those up to it.
use Rattle.std.proofs.Common.{arith}
use Rattle.lent_text.proofs.Texts.{put_behind}
use Rattle.listing_lines.proofs.put_lines.Goals as goal

pub returns : goal.returns
returns c =
    let head = c.put_head-at.ensures in
    let rest = c.put_after.ensures in
    (omega (arith, head.0, rest.0), put_behind (omega arith) head.1 rest.1)
