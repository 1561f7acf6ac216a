use Rattle.cal_events.proofs.event_lemmas.OneMeeting.{one_spelled, no_fault}
use Rattle.cal_events.proofs.event.one_meeting.Goals as goal

pub returns-clause-one : goal.returns-clause-one
returns-clause-one c = one_spelled c.one_tree.ensures.one c.one_event.ensures.one

pub returns-clause-or_a_fault : goal.returns-clause-or_a_fault
returns-clause-or_a_fault c = no_fault c.one_tree.ensures.one c.one_tree.ensures.or_a_fault c.one_event.ensures.one c.one_event.ensures.or_a_fault
