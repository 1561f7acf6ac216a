use Rattle.std.proofs.lemmas.Grind.{common_steps}
use Rattle.std.proofs.Common.{arith}
use Rattle.ical_lines.proofs.unfold.add_line.Goals as goal

pub returns-in_ok-extend_from_slice-in-32 : goal.returns-in_ok-extend_from_slice-in-32
returns-in_ok-extend_from_slice-in-32 c = grind (arith, common_steps)

pub returns-in_ok-extend_from_slice-in_default : goal.returns-in_ok-extend_from_slice-in_default
returns-in_ok-extend_from_slice-in_default c = grind (arith, common_steps)
