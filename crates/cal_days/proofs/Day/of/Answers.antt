use Rattle.std.proofs.Common.{arith}
use Rattle.std.proofs.lemmas.Grind.{common_steps}
use Rattle.cal_days.proofs.Day.of.Goals as goal

pub returns-then-year-lt1-clause-found : goal.returns-then-year-lt1-clause-found
returns-then-year-lt1-clause-found c = grind (arith, common_steps)
