use Rattle.std.proofs.Common.{arith}
use Rattle.std.proofs.lemmas.Grind.{common_steps}
use Rattle.cal_days.proofs.month_length.Goals as goal

pub returns-in-2-clause-value : goal.returns-in-2-clause-value
returns-in-2-clause-value c = grind (arith, common_steps)

pub returns-in-2-2-clause-value : goal.returns-in-2-2-clause-value
returns-in-2-2-clause-value c = grind (arith, common_steps)
