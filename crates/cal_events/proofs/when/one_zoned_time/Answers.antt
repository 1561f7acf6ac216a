use Rattle.cal_events.proofs.when_lemmas.OneZoned.{one, or_a_fault}
use Rattle.cal_events.proofs.when.one_zoned_time.Goals as goal

pub returns-clause-one : goal.returns-clause-one
returns-clause-one c = one c.one_stamp.ensures.reading c.one_local_time.ensures.reading c.one_zone.ensures.one

pub returns-clause-or_a_fault : goal.returns-clause-or_a_fault
returns-clause-or_a_fault c = or_a_fault c.one_zone.ensures.or_a_fault
