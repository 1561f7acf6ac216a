use Rattle.cal_period.proofs.Going.{at_first, at_entry}
use Rattle.cal_period.proofs.walk.Walk.to.Goals as goal

pub returns-clause-begins : goal.returns-clause-begins
returns-clause-begins c = λ series old new known all given. at_first series old new c.args.first known all given

pub returns-clause-enters : goal.returns-clause-enters
returns-clause-enters c = λ series by entry old new known from given. at_entry series by entry old new c.args.first known from given
