use Rattle.ical_values.proofs.Readings.{offset_same, offset_written, offset_form}
use Rattle.ical_values.proofs.offset.one_offset.Goals as goal

pub returns-clause-reading : goal.returns-clause-reading
returns-clause-reading c = offset_same

pub returns-clause-written : goal.returns-clause-written
returns-clause-written c = offset_written

pub returns-clause-form : goal.returns-clause-form
returns-clause-form c = offset_form
