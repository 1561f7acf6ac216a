use Rattle.ical_values.proofs.Escapes.{read_back}
use Rattle.ical_values.proofs.text.text_reads_back.Goals as goal

pub returns : goal.returns
returns c = read_back
