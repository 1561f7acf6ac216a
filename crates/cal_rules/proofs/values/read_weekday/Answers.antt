use Rattle.std.proofs.Common.{rules}
use Rattle.cal_rules.proofs.values.read_weekday.Goals as goal

pub returns-in-MO-clause-reads : goal.returns-in-MO-clause-reads
returns-in-MO-clause-reads c = search rules

pub returns-in-MO-clause-none : goal.returns-in-MO-clause-none
returns-in-MO-clause-none c = search rules

pub returns-in-TU-clause-reads : goal.returns-in-TU-clause-reads
returns-in-TU-clause-reads c = search rules

pub returns-in-TU-clause-none : goal.returns-in-TU-clause-none
returns-in-TU-clause-none c = search rules

pub returns-in-WE-clause-reads : goal.returns-in-WE-clause-reads
returns-in-WE-clause-reads c = search rules

pub returns-in-WE-clause-none : goal.returns-in-WE-clause-none
returns-in-WE-clause-none c = search rules

pub returns-in-TH-clause-reads : goal.returns-in-TH-clause-reads
returns-in-TH-clause-reads c = search rules

pub returns-in-TH-clause-none : goal.returns-in-TH-clause-none
returns-in-TH-clause-none c = search rules

pub returns-in-FR-clause-reads : goal.returns-in-FR-clause-reads
returns-in-FR-clause-reads c = search rules

pub returns-in-FR-clause-none : goal.returns-in-FR-clause-none
returns-in-FR-clause-none c = search rules

pub returns-in-SA-clause-reads : goal.returns-in-SA-clause-reads
returns-in-SA-clause-reads c = search rules

pub returns-in-SA-clause-none : goal.returns-in-SA-clause-none
returns-in-SA-clause-none c = search rules

pub returns-in-SU-clause-reads : goal.returns-in-SU-clause-reads
returns-in-SU-clause-reads c = search rules

pub returns-in-SU-clause-none : goal.returns-in-SU-clause-none
returns-in-SU-clause-none c = search rules

pub returns-in_default-clause-reads : goal.returns-in_default-clause-reads
returns-in_default-clause-reads c = search rules

pub returns-in_default-clause-none : goal.returns-in_default-clause-none
returns-in_default-clause-none c = search rules
