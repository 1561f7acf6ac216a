use Rattle.cal_rules.specs.Views.{pattern_of}
use Rattle.cal_rules.proofs.PeriodsOf.{some_and_few}
use Rattle.cal_rules.proofs.rule.Rule.period_days.Goals as goal

pub returns-clause-few : goal.returns-clause-few
returns-clause-few c = some_and_few (pattern_of c.written-written.result.now 0) c.period_days.result (c.period_days.ensures.period 0) c.period_days.ensures.few
