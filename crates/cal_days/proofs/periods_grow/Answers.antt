use Rattle.cal_days.proofs.Growth.{ascend, last}
use Rattle.cal_days.proofs.periods_grow.Goals as goal

pub returns : goal.returns
returns c = record { ascend = ascend; last = last }
