use Rattle.std.proofs.Common.{arith}
use Rattle.std.proofs.lemmas.Grind.{common_steps}
use Rattle.cal_events.proofs.calendar.spans_of.Goals as goal

pub loop-single-preserved : goal.loop-single-preserved
loop-single-preserved c = grind (arith, common_steps)

pub returns : goal.returns
returns c = grind (arith, common_steps)
