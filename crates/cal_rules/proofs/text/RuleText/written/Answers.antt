use Rattle.cal_rules.specs.Views.{rule_text_said}
use Rattle.cal_rules.proofs.Lists.{interval_low}
use Rattle.cal_rules.proofs.text.RuleText.written.Goals as goal

pub returns-clause-interval : goal.returns-clause-interval
returns-clause-interval c = interval_low (rule_text_said c.self.inside.written) c.self.invariant.0
