use Rattle.cal_events.proofs.reading_lemmas.OneText.{one_spelled, no_fault}
use Rattle.cal_events.proofs.reading.one_calendar_text.Goals as goal

pub returns-clause-one : goal.returns-clause-one
returns-clause-one c = one_spelled c.one_tree.ensures.one c.one_calendar.ensures.one

pub returns-clause-or_a_fault : goal.returns-clause-or_a_fault
returns-clause-or_a_fault c = no_fault c.one_tree.ensures.one c.one_tree.ensures.or_a_fault c.one_calendar.ensures.or_a_fault
