use Rattle.std.proofs.Common.{arith}
use Rattle.std.proofs.lemmas.Grind.{common_steps}
use Rattle.sched_box.proofs.preamble.LineState.after.Goals as goal

pub returns-in-Return : goal.returns-in-Return
returns-in-Return c = grind (arith, common_steps)
