use Rattle.std.proofs.Common.{arith}
use Rattle.ical_values.proofs.Readings.{clock_same, clock_written, clock_form}
use Rattle.ical_values.proofs.local_time.one_local_time.Goals as goal

pub returns-clause-reading : goal.returns-clause-reading
returns-clause-reading c = λ text a b. clock_same 60 text a b (omega arith)

pub returns-clause-written : goal.returns-clause-written
returns-clause-written c = clock_written

pub returns-clause-form : goal.returns-clause-form
returns-clause-form c = clock_form c.one_date.ensures
