use Rattle.std.proofs.lemmas.Grind.{common_steps}
use Rattle.std.proofs.Common.{arith}
use Rattle.cal_zones.proofs.one_day.only.Goals as goal

pub returns-then-not-are_all-clause-none : goal.returns-then-not-are_all-clause-none
returns-then-not-are_all-clause-none g c = grind (arith, common_steps)
