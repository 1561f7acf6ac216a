use Rattle.std.proofs.lemmas.List.{append-nil}
use Rattle.ical_lines.proofs.ReadBackLemmas.{reads_back, short_lines}
use Rattle.ical_lines.proofs.fold.write_line.Goals as goal

pub returns-clause-reads_back : goal.returns-clause-reads_back
returns-clause-reads_back c = λ h rest k. reads_back c.args.text.now rest c.utf8.text h k

pub returns-clause-short : goal.returns-clause-short
returns-clause-short c = λ h. short_lines c.args.text.now c.utf8.text h

pub returns-clause-written : goal.returns-clause-written
returns-clause-written c = rw (append-nil c.args.text.now) at (c.write_joined.ensures.written)
