use Rattle.std.proofs.lemmas.Grind.{common_steps}
use Rattle.std.proofs.Common.{arith}
use Rattle.ical_lines.proofs.text.Lines.next_text.Goals as goal

pub returns-clause-next : goal.returns-clause-next
returns-clause-next c = grind (arith, common_steps)
