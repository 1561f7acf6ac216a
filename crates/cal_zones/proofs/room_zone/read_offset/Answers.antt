use Rattle.std.proofs.Common.{refl}
use Rattle.ical_values.proofs.Readings.{offset_written}
use Rattle.cal_zones.proofs.room_zone.read_offset.Goals as goal

pub returns-in-Err-clause-fault : goal.returns-in-Err-clause-fault
returns-in-Err-clause-fault c = (refl, λ offset w. c.in-Err.ensures.none offset (offset_written c.args.text.now offset w))
