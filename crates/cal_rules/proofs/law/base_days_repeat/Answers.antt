use Rattle.cal_rules.proofs.Shifts.{base_shift}
use Rattle.cal_rules.proofs.law.base_days_repeat.Goals as goal

pub returns : goal.returns
returns c = base_shift
