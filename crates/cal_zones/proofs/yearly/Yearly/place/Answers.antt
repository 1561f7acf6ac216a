use Rattle.std.proofs.Common.{rules}
use Rattle.cal_zones.proofs.yearly.Yearly.place.Goals as goal

pub returns-in-Day : goal.returns-in-Day
returns-in-Day c = search rules

pub returns-in-FromStart : goal.returns-in-FromStart
returns-in-FromStart c = search rules

pub returns-in-FromEnd : goal.returns-in-FromEnd
returns-in-FromEnd c = search rules

pub returns-in-Week : goal.returns-in-Week
returns-in-Week c = search rules
