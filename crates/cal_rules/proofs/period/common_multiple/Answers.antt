use Rattle.cal_rules.proofs.Multiples.{either_order}
use Rattle.cal_rules.proofs.period.common_multiple.Goals as goal

pub returns-then-a-b-clause-least : goal.returns-then-a-b-clause-least
returns-then-a-b-clause-least c = either_order c.args.a c.args.b c.multiple_of.result c.multiple_of.ensures.least
