use Rattle.cal_rules.proofs.Shifts.{rule_down, rule_up}
use Rattle.cal_rules.proofs.law.rule_days_repeat.Goals as goal

pub returns : goal.returns
returns c = record { down = rule_down; up = rule_up }
