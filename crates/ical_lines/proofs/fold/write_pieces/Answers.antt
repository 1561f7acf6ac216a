use Rattle.std.proofs.lemmas.List.{append-nil}
use Rattle.std.proofs.lemmas.Str.{IsUtf8-append}
use Rattle.ical_lines.proofs.ReadBackLemmas.{reads_back, short_lines}
use Rattle.ical_lines.proofs.fold.write_pieces.Goals as goal

pub returns-clause-written : goal.returns-clause-written
returns-clause-written c = rw (append-nil c.args.second.now) at (c.write_joined.ensures.written)

pub returns-clause-reads_back : goal.returns-clause-reads_back
returns-clause-reads_back c = λ h rest k. reads_back _ rest (IsUtf8-append c.args.first.now c.args.second.now c.utf8.first c.utf8.second) h k

pub returns-clause-short : goal.returns-clause-short
returns-clause-short c = λ h. short_lines _ (IsUtf8-append c.args.first.now c.args.second.now c.utf8.first c.utf8.second) h
