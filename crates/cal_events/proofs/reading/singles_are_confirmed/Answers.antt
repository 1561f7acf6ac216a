use Rattle.cal_zones.proofs.OneRoomZone.{one_room_zone}
use Rattle.cal_events.proofs.reading_lemmas.ConfirmedLemmas.{single, all_single, one_key}
use Rattle.cal_events.proofs.reading.singles_are_confirmed.Goals as goal

pub returns-clause-single : goal.returns-clause-single
returns-clause-single c = λ room octets all b s h. single c.one_tree.ensures.one c.one_event.ensures.one one_room_zone room octets all s b h

pub returns-clause-all : goal.returns-clause-all
returns-clause-all c = λ room octets all b s none h. all_single c.one_tree.ensures.one c.one_event.ensures.one one_room_zone room octets all s none b h

pub returns-clause-keys : goal.returns-clause-keys
returns-clause-keys c = λ room octets all a b s h k same. one_key c.one_tree.ensures.one c.one_event.ensures.one one_room_zone room octets all s a b h k same
