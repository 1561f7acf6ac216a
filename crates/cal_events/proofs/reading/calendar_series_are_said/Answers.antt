use Rattle.cal_zones.proofs.OneRoomZone.{one_room_zone}
use Rattle.cal_events.proofs.reading_lemmas.ConfirmedLemmas.{are_said}
use Rattle.cal_events.proofs.reading.calendar_series_are_said.Goals as goal

pub returns : goal.returns
returns c = λ room octets all s. are_said c.one_tree.ensures.one c.one_event.ensures.one one_room_zone room octets all s
