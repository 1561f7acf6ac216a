use Rattle.ical_lines.proofs.ContentLemmas.{read_content, read_fine}
use Rattle.ical_lines.proofs.law.read_lines_are_content.Goals as goal

pub returns-clause-content : goal.returns-clause-content
returns-clause-content c = read_content

pub returns-clause-fine : goal.returns-clause-fine
returns-clause-fine c = read_fine
