use Rattle.cal_events.proofs.shared_lemmas.MeetingInstances.{one_at, dated}
use Rattle.cal_events.proofs.event.one_instance.Goals as goal

pub returns-clause-one : goal.returns-clause-one
returns-clause-one c words room octets meeting a b named s h k start slot = one_at words room named s.tree meeting s.says a b h k start slot

pub returns-clause-dates : goal.returns-clause-dates
returns-clause-dates c words room octets meeting a named s h = dated words room named s.tree meeting s.says a h
