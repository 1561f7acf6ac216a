use Rattle.cal_period.proofs.Going.{gone_past, gone_on}
use Rattle.cal_period.proofs.walk.Walk.past.Goals as goal

pub returns-clause-is_walk : goal.returns-clause-is_walk
returns-clause-is_walk c = λ series old new s given.
    gone_past series old new c.args.self.now s.ahead c.args.next c.requires c.args.after given s.last c.later_end.result c.later_end.ensures

pub returns-clause-tail : goal.returns-clause-tail
returns-clause-tail c = λ series by old new t given.
    gone_on series old new c.args.self.now t.ahead c.args.next c.requires c.args.after given by t.last c.later_end.result c.later_end.ensures
