use Rattle.std.proofs.Common.{rules}
use Rattle.cal_rules.proofs.values.read_between.Goals as goal

pub returns-then-number-low-clause-reads : goal.returns-then-number-low-clause-reads
returns-then-number-low-clause-reads c = search rules

pub returns-then-number-low-clause-none : goal.returns-then-number-low-clause-none
returns-then-number-low-clause-none c = search rules

pub returns-clause-reads : goal.returns-clause-reads
returns-clause-reads c = search rules

pub returns-clause-none : goal.returns-clause-none
returns-clause-none c = search rules
