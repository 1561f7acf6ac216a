use Rattle.cal_days.proofs.Dates.{date_is, date_counts}
use Rattle.cal_days.proofs.date_of_index.Goals as goal

pub returns : goal.returns
returns c = record { date = date_is; count = date_counts }
