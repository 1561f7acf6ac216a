use Rattle.cal_zones.proofs.OneRoomZone.{one_room_zone}
use Rattle.cal_events.proofs.reading_lemmas.OneCalendar.{one_calendar, no_fault}
use Rattle.cal_events.proofs.reading.one_calendar.Goals as goal

pub returns-clause-one : goal.returns-clause-one
returns-clause-one c = one_calendar c.one_event.ensures.one one_room_zone

pub returns-clause-or_a_fault : goal.returns-clause-or_a_fault
returns-clause-or_a_fault c = no_fault c.one_event.ensures.one c.one_event.ensures.or_a_fault one_room_zone
