use Rattle.ical_lines.proofs.EndLemmas.{object_ends, ends_only}
use Rattle.ical_lines.proofs.law.object_ends_with_its_line.Goals as goal

pub returns-clause-ends : goal.returns-clause-ends
returns-clause-ends c = object_ends

pub returns-clause-only : goal.returns-clause-only
returns-clause-only c = ends_only
