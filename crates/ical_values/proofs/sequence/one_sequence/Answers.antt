use Rattle.ical_values.proofs.Readings.{sequence_same, sequence_written}
use Rattle.ical_values.proofs.sequence.one_sequence.Goals as goal

pub returns-clause-reading : goal.returns-clause-reading
returns-clause-reading c = sequence_same

pub returns-clause-written : goal.returns-clause-written
returns-clause-written c = sequence_written
