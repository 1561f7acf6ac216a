use Rattle.std.proofs.Common.{rules}
use Rattle.cal_events.proofs.occurrences_lemmas.RecurrenceLemmas.{unfixed_there}
use Rattle.cal_events.proofs.occurrences.refuse_unfixed.Goals as goal

pub returns-in-Some-clause-fault : goal.returns-in-Some-clause-fault
returns-in-Some-clause-fault c object lines s added = rw c.at.ensures (unfixed_there object lines c.in-Some.said (search rules) c.if-fixed.true (search rules))
