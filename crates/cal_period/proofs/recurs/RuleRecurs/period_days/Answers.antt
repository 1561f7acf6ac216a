use Rattle.cal_period.proofs.Members.{rule_periods}
use Rattle.cal_period.proofs.recurs.RuleRecurs.period_days.Goals as goal

pub returns : goal.returns
returns c =
    let is = c.period_days.ensures in
    rule_periods c.args.self.now c.period_days.result is.ended is.endless is.few
