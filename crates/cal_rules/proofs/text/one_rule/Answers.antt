use Rattle.cal_rules.proofs.OneRule.{one_rule_read, no_fault}
use Rattle.cal_rules.proofs.text.one_rule.Goals as goal

pub returns-clause-reading : goal.returns-clause-reading
returns-clause-reading c = one_rule_read

pub returns-clause-none : goal.returns-clause-none
returns-clause-none c = no_fault
