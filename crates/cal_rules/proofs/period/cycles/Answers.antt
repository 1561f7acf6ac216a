use Rattle.cal_rules.proofs.Multiples.{no_cycle}
use Rattle.cal_rules.proofs.period.cycles.Goals as goal

pub returns-in_default-clause-least : goal.returns-in_default-clause-least
returns-in_default-clause-least c = no_cycle c.args.periods c.args.interval c.in_default.ensures
