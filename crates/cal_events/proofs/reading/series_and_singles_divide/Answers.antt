use Rattle.cal_zones.proofs.OneRoomZone.{one_room_zone}
use Rattle.cal_events.proofs.reading_lemmas.ConfirmedLemmas.{series_confirmed, no_single, other_single}
use Rattle.cal_events.proofs.reading.series_and_singles_divide.Goals as goal

pub returns-clause-series : goal.returns-clause-series
returns-clause-series c = λ room octets all b s h. series_confirmed c.one_tree.ensures.one c.one_event.ensures.one one_room_zone room octets all s b h

pub returns-clause-apart : goal.returns-clause-apart
returns-clause-apart c = λ room octets all b s h single. no_single c.one_tree.ensures.one c.one_event.ensures.one one_room_zone room octets all s b single h

pub returns-clause-single : goal.returns-clause-single
returns-clause-single c = λ room octets all b s h none. other_single c.one_tree.ensures.one c.one_event.ensures.one one_room_zone room octets all s b h none
