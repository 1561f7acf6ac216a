use Rattle.cal_days.proofs.Order.{one_number}
use Rattle.cal_days.proofs.one_date.Goals as goal

pub returns : goal.returns
returns c = one_number
