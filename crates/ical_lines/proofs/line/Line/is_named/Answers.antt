use Rattle.std.proofs.Common.{rules}
use Rattle.ical_lines.proofs.line.Line.is_named.Goals as goal

pub returns : goal.returns
returns c = search rules
