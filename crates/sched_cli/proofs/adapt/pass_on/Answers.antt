use Rattle.sched_doors.specs.Streams.{at_door}
use Rattle.sched_cli.proofs.Adapted.{put_stops}
use Rattle.sched_cli.proofs.adapt.pass_on.Goals as goal

pub returns-in-Ok-clause-stops : goal.returns-in-Ok-clause-stops
returns-in-Ok-clause-stops g c =
    let door = c.pass.new.self in
    put_stops c.put_lent.result _ _ (at_door door.place door.octets.items (g.R.Input.remaining door.reader)) _ _ _ _ _ _ _ c.buffer.ensures.lent c.in-Ok.ensures.passes c.put_lent.ensures.stops
