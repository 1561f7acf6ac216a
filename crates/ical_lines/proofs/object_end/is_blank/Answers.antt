use Rattle.std.proofs.Common.{arith}
use Rattle.std.proofs.lemmas.Grind.{common_steps}
use Rattle.ical_lines.proofs.object_end.is_blank.Goals as goal

pub returns-else-octet-eq32 : goal.returns-else-octet-eq32
returns-else-octet-eq32 c = grind (arith, common_steps)
