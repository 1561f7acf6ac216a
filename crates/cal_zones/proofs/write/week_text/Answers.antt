use Rattle.std.proofs.Common.{rules}
use Rattle.cal_zones.proofs.write.week_text.Goals as goal

pub returns : goal.returns
returns c = search rules
