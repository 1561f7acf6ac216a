use Rattle.cal_events.proofs.component_lemmas.OneEvent.{one_event, no_fault, one_number}
use Rattle.cal_events.proofs.component.one_event.Goals as goal

pub returns-clause-one : goal.returns-clause-one
returns-clause-one c = one_event c.one_stamp.ensures.reading c.one_duration.ensures.reading c.one_sequence.ensures.reading c.one_zoned_time.ensures.one c.one_rule.ensures.reading

pub returns-clause-or_a_fault : goal.returns-clause-or_a_fault
returns-clause-or_a_fault c = λ object m lines a n s f.
    no_fault c.one_duration.ensures.reading c.one_duration.ensures.negative c.one_zoned_time.ensures.one c.one_zoned_time.ensures.or_a_fault c.one_rule.ensures.reading
    c.one_rule.ensures.none object m lines a s n f

pub returns-clause-one_number : goal.returns-clause-one_number
returns-clause-one_number c = one_number
