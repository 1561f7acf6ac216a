use Rattle.ical_lines.proofs.ReadBackLemmas.{reads_back, short_lines, property_utf8}
use Rattle.ical_lines.proofs.fold.write_property.Goals as goal

pub returns-clause-reads_back : goal.returns-clause-reads_back
returns-clause-reads_back c = λ h rest k. reads_back _ rest (property_utf8 c.args.name.now c.args.value.now c.utf8.name c.utf8.value) h k

pub returns-clause-short : goal.returns-clause-short
returns-clause-short c = λ h. short_lines _ (property_utf8 c.args.name.now c.args.value.now c.utf8.name c.utf8.value) h
