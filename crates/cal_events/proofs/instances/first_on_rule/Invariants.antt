use Rattle.std.proofs.Common.{[], ◌-◌}
use Rattle.cal_events.specs.Recurrence.{recurring}
use Rattle.cal_events.specs.Instances.{AreWalked, IsOfClock}
use Rattle.cal_events.proofs.instances.first_on_rule.Given as goal

abbrev pub invariant-loop-found : goal.invariant-loop-found
invariant-loop-found l = AreWalked (recurring l.recurrence) [] l.after l.days × IsOfClock (recurring l.recurrence) l.clock

abbrev pub decreases-loop-found : goal.decreases-loop-found
decreases-loop-found l = 4_000_000 - l.days.from
