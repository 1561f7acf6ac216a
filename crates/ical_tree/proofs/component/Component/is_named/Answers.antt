use Rattle.std.proofs.Common.{rules}
use Rattle.ical_tree.proofs.component.Component.is_named.Goals as goal

pub returns : goal.returns
returns c = search rules
