use Rattle.std.proofs.Common.{rules}
use Rattle.cal_rules.proofs.listing.go_on.Goals as goal

pub loop-cursor-init : goal.loop-cursor-init
loop-cursor-init c = search rules

pub loop-cursor-preserved : goal.loop-cursor-preserved
loop-cursor-preserved c = search rules

pub returns : goal.returns
returns c = search rules
