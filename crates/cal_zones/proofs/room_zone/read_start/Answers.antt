use Rattle.std.proofs.Common.{◌∙◌, refl, arith}
use Rattle.profile.specs.series.Zones.{local_time}
use Rattle.ical_values.proofs.Readings.{clock_same}
use Rattle.cal_zones.proofs.RoomReads.{start_spelled}
use Rattle.cal_zones.proofs.room_zone.read_start.Goals as goal

pub returns-in-Ok-clause-reads : goal.returns-in-Ok-clause-reads
returns-in-Ok-clause-reads c = λ second w.
    clock_same 60 c.as_str.result.now c.in-Ok.start (local_time 719_528 second) (omega arith) c.in-Ok.ensures.reads
    (start_spelled c.as_str.result.now c.args.time.now second (c.as_str.ensures.value ∙ c.in_ok-text.ensures.ok) w)

pub returns-clause-fault : goal.returns-clause-fault
returns-clause-fault c = (refl, λ second w. c.in-Err.ensures.none (local_time 719_528 second) (start_spelled c.as_str.result.now c.args.time.now second (c.as_str.ensures.value ∙ c.in_ok-text.ensures.ok) w))
