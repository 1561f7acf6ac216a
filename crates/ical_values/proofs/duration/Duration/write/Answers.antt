use Rattle.std.proofs.Common.{arith}
use Rattle.std.proofs.lemmas.Grind.{common_steps}
use Rattle.ical_values.proofs.duration.Duration.write.Goals as goal

pub returns-in-0-default-clause-ok : goal.returns-in-0-default-clause-ok
returns-in-0-default-clause-ok c = grind (arith, common_steps)
