use Rattle.std.proofs.Common.{subst}
use Rattle.cal_events.specs.Calendar.{HaveOwnKeys}
use Rattle.cal_events.proofs.calendar.Calendar.series.Goals as goal

pub returns-clause-keys : goal.returns-clause-keys
returns-clause-keys c = subst HaveOwnKeys c.self.view_is c.self.invariant.2
