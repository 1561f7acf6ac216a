use Rattle.std.proofs.lemmas.Grind.{common_steps}
use Rattle.std.proofs.Common.{arith}
use Rattle.ical_tree.proofs.read.Reader.end_run.Goals as goal

pub returns-clause-view : goal.returns-clause-view
returns-clause-view c = grind (arith, common_steps)
