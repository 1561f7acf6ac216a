use Rattle.std.proofs.Common.{arith}
use Rattle.std.proofs.lemmas.Grind.{common_steps}
use Rattle.cal_days.proofs.Day.of_number.Goals as goal

pub returns-then-number-lt-FIRST_NUMBER-clause-found : goal.returns-then-number-lt-FIRST_NUMBER-clause-found
returns-then-number-lt-FIRST_NUMBER-clause-found c = grind (arith, common_steps)
