use Rattle.ical_values.proofs.Readings.{stamp_same, stamp_written, stamp_form}
use Rattle.ical_values.proofs.stamp.one_stamp.Goals as goal

pub returns-clause-reading : goal.returns-clause-reading
returns-clause-reading c = stamp_same

pub returns-clause-written : goal.returns-clause-written
returns-clause-written c = stamp_written

pub returns-clause-form : goal.returns-clause-form
returns-clause-form c = stamp_form c.one_date.ensures
