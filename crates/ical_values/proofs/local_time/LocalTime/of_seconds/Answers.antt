use Rattle.std.proofs.Common.{arith}
use Rattle.std.proofs.lemmas.Grind.{common_steps}
use Rattle.ical_values.proofs.local_time.LocalTime.of_seconds.Goals as goal

pub returns-then-seconds-lt-FIRST-clause-found : goal.returns-then-seconds-lt-FIRST-clause-found
returns-then-seconds-lt-FIRST-clause-found c = grind (arith, common_steps)
