use Rattle.std.proofs.Common.{[], None, ◌-◌}
use Rattle.cal_events.specs.Component.{component_of}
use Rattle.cal_events.specs.Instances.{AreWalked}
use Rattle.cal_events.proofs.single_starts.is_on_rule.Given as goal

abbrev pub invariant-loop-day : goal.invariant-loop-day
invariant-loop-day l = AreWalked (component_of l.master) [] (record { start = l.instant; slot = None }) l.days

abbrev pub decreases-loop-day : goal.decreases-loop-day
decreases-loop-day l = 4_000_000 - l.days.from
