use Rattle.cal_events.proofs.when.read_date_time.Goals as goal

pub returns-in-Err-clause-fault : goal.returns-in-Err-clause-fault
returns-in-Err-clause-fault c = (c.in_default.ensures.none, (λ l. c.in-Err.ensures.none l.0 l.1), c.malformed.ensures)
