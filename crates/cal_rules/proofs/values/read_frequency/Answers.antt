use Rattle.std.proofs.Common.{rules}
use Rattle.cal_rules.proofs.values.read_frequency.Goals as goal

pub returns-in-DAILY-clause-reads : goal.returns-in-DAILY-clause-reads
returns-in-DAILY-clause-reads c = search rules

pub returns-in-DAILY-clause-none : goal.returns-in-DAILY-clause-none
returns-in-DAILY-clause-none c = search rules

pub returns-in-WEEKLY-clause-reads : goal.returns-in-WEEKLY-clause-reads
returns-in-WEEKLY-clause-reads c = search rules

pub returns-in-WEEKLY-clause-none : goal.returns-in-WEEKLY-clause-none
returns-in-WEEKLY-clause-none c = search rules

pub returns-in-MONTHLY-clause-reads : goal.returns-in-MONTHLY-clause-reads
returns-in-MONTHLY-clause-reads c = search rules

pub returns-in-MONTHLY-clause-none : goal.returns-in-MONTHLY-clause-none
returns-in-MONTHLY-clause-none c = search rules

pub returns-in-YEARLY-clause-reads : goal.returns-in-YEARLY-clause-reads
returns-in-YEARLY-clause-reads c = search rules

pub returns-in-YEARLY-clause-none : goal.returns-in-YEARLY-clause-none
returns-in-YEARLY-clause-none c = search rules

pub returns-in_default-clause-reads : goal.returns-in_default-clause-reads
returns-in_default-clause-reads c = search rules

pub returns-in_default-clause-none : goal.returns-in_default-clause-none
returns-in_default-clause-none c = search rules
