use Rattle.std.proofs.Common.{rules}
use Rattle.cal_events.proofs.occurrences_lemmas.RecurrenceLemmas.{recurrence_out_there}
use Rattle.cal_events.proofs.occurrences.judge_recurrence.Goals as goal

pub returns-in-Some-clause-fault : goal.returns-in-Some-clause-fault
returns-in-Some-clause-fault c object lines s added fixed = rw c.at.ensures (recurrence_out_there object lines c.in-Some.said (search rules) (search rules))
