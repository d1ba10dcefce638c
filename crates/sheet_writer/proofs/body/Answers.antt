-- The headers, the table and the polygons one behind the other.
use Rattle.sheet_writer.proofs.Wholes.{gone_headers, body_stops, unpointed_fair, body_goes}
use Rattle.sheet_writer.proofs.body.Goals as goal

pub returns-in_err-v : goal.returns-in_err-v
returns-in_err-v c = rw c.from_residual.ensures
    (body_stops (record { few = c.requires.1; behind = c.header-2.new.out; headed = gone_headers _ _ _ _ _ _ c.requires.0 c.requires.3 c.header.ensures c.header-2.ensures; went = c.in_err-v.ensures }))

pub thing-requires : goal.thing-requires
thing-requires c =
    unpointed_fair (record { few = c.requires.1; behind = c.header-2.new.out; headed = gone_headers _ _ _ _ _ _ c.requires.0 c.requires.3 c.header.ensures c.header-2.ensures; went = c.in_ok-v.ensures })

pub returns : goal.returns
returns c =
    body_goes (record { few = c.requires.1; behind = c.header-2.new.out; headed = gone_headers _ _ _ _ _ _ c.requires.0 c.requires.3 c.header.ensures c.header-2.ensures; went = c.in_ok-v.ensures })
    c.thing.result c.thing.new.out c.thing.ensures
