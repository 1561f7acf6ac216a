use Rattle.ical_lines.proofs.SplitLemmas.{first_line, only_line, rest_at_byte}
use Rattle.ical_lines.proofs.unfold.split_line.Goals as goal

pub returns-in-Some-clause-lines : goal.returns-in-Some-clause-lines
returns-in-Some-clause-lines c = first_line c.args.octets.now _ c.in-Some.end c.in-Some.ensures c.without_return.ensures

pub returns-in-None-clause-lines : goal.returns-in-None-clause-lines
returns-in-None-clause-lines c = only_line c.args.octets.now _ c.in-None.ensures c.without_return-in-None.ensures

pub returns-in-Some-clause-rest : goal.returns-in-Some-clause-rest
returns-in-Some-clause-rest c = rest_at_byte c.args.octets.now c.in-Some.end c.in-Some.ensures
