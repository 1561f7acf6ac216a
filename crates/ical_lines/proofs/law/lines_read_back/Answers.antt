use Rattle.ical_lines.proofs.ContentLemmas.{lines_back, lines_fine}
use Rattle.ical_lines.proofs.law.lines_read_back.Goals as goal

pub returns-clause-lines : goal.returns-clause-lines
returns-clause-lines c = lines_back

pub returns-clause-reads : goal.returns-clause-reads
returns-clause-reads c = lines_fine
