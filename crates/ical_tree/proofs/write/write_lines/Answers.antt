use Rattle.std.proofs.lemmas.Grind.{common_steps}
use Rattle.std.proofs.Common.{arith}
use Rattle.ical_tree.proofs.write.write_lines.Goals as goal

pub loop-line-init : goal.loop-line-init
loop-line-init c = grind (arith, common_steps)

pub loop-line-preserved : goal.loop-line-preserved
loop-line-preserved c = grind (arith, common_steps)
