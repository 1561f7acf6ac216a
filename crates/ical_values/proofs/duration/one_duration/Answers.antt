use Rattle.ical_values.proofs.Spans.{duration_same, negative_apart, duration_written}
use Rattle.ical_values.proofs.duration.one_duration.Goals as goal

pub returns-clause-reading : goal.returns-clause-reading
returns-clause-reading c = duration_same

pub returns-clause-negative : goal.returns-clause-negative
returns-clause-negative c = negative_apart

pub returns-clause-written : goal.returns-clause-written
returns-clause-written c = duration_written
