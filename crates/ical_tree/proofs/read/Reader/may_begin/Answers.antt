use Rattle.std.proofs.Common.{rules}
use Rattle.ical_tree.proofs.read.Reader.may_begin.Goals as goal

pub returns-else-is_outside : goal.returns-else-is_outside
returns-else-is_outside c = search rules
