use Rattle.cal_rules.proofs.InOrder.{allowed_back}
use Rattle.cal_rules.proofs.write.rule_reads_back.Goals as goal

pub returns : goal.returns
returns c = allowed_back
