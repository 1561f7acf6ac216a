use Rattle.std.proofs.Common.{rules}
use Rattle.cal_rules.proofs.rule.Rule.next_day.Goals as goal

pub overflow_sub-found : goal.overflow_sub-found
overflow_sub-found c = search rules

pub returns-then-found-self : goal.returns-then-found-self
returns-then-found-self c = search rules

pub returns : goal.returns
returns c = search rules
