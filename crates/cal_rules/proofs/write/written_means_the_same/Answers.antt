use Rattle.cal_rules.proofs.SameDays.{same_days}
use Rattle.cal_rules.proofs.write.written_means_the_same.Goals as goal

pub returns : goal.returns
returns c = same_days
